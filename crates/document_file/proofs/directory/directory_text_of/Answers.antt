use Rattle.std.proofs.Common.{◌≡◌, ◌<◌, None, Some, is_some, get_or, length, ap, sym, subst, ◌∙◌, arith}
use Rattle.std.specs.List.{count_by}
use Rattle.std.proofs.lemmas.List.{append-nil}
use Rattle.std.proofs.lemmas.List.Elements.{All-nil}
use Rattle.file_format.specs.File.{header_text}
use Rattle.geos_model.specs.Document.{FitAttributes}
use Rattle.document_file.proofs.TableDirectoryLemmas.{entries_few, length-entries_of, text_none, text_some}
use Rattle.document_file.specs.declared.table.Place.{Place}
use Rattle.document_file.proofs.directory.directory_text_of.Goals as goal
use Rattle.document_file.proofs.directory.directory_text_of.Goals.{in-Some+in_ok-push_entry, in_default}

pub begin_directory-requires : goal.begin_directory-requires
begin_directory-requires c =
    let few = entries_few 1 c.args.table.now.places.items in
    let count = c.block_count.ensures ∙ ap (count_by (is_some {T = Place})) c.deref.ensures.value ∙ sym (length-entries_of 1 c.args.table.now.places.items) in
    let all = c.requires in
    omega (arith, few, count, all)

pub loop-i-init : goal.loop-i-init
loop-i-init c =
    let count = c.block_count.ensures ∙ ap (count_by (is_some {T = Place})) c.deref.ensures.value ∙ sym (length-entries_of 1 c.args.table.now.places.items) in
    record {
      text_is = c.in_ok-text.ensures ∙ ap (λ n. header_text c.args.version n c.args.table.now.map_block) count ∙ sym (append-nil _);
      attributes = All-nil (λ e. FitAttributes e.attributes);
    }

pub loop-i-preserved : goal.loop-i-preserved
loop-i-preserved c =
    let i = c.loop-i.i in
    let places = c.args.table.now.places.items in
    let same = c.deref-place-items.ensures.value in
    let within = subst (λ ps. i < length ps) same c.loop-i-test.true in
    elim c.match-place.branch [
      | in-Some+in_ok-push_entry w ↦
          text_some c.args.version _ places i w.in-Some.place _ _ w.entry_of.result within (subst (λ ps. get_or ps i None ≡ Some w.in-Some.place) same w.in-Some.is) c.loop-i.invariant
          (ap (λ v. v.items) w.text-is ∙ w.in_ok-push_entry.ensures.pushed) w.entry_of.ensures.entry w.entry_of.ensures.attributes
      | in_default w ↦ text_none c.args.version _ places i _ _ within (subst (λ ps. get_or ps i None ≡ None) same w.in_default.is) (ap (λ v. v.items) w.text-is) c.loop-i.invariant
    ]
