use Rattle.document_tools.proofs.Checked.{text_told}
use Rattle.document_tools.proofs.checking.check_text.Goals as goal

-- Its lines are those of the report, and behind them those of the pages.
pub returns : goal.returns
returns c =
    text_told c.args.report.now _ c.in_ok-pages.pages.items c.as_slice-told.result.now c.in_ok-text.text.items
    c.counting-counting.ensures c.in_ok-pages.ensures c.as_slice-told.ensures.value c.in_ok-text.ensures
