use Rattle.document_tools.proofs.ending.complain.Goals as goal

-- Just this line was written, whatever came of it.
pub returns : goal.returns
returns g c = (c.write_out.result, c.write_out.ensures.call)
