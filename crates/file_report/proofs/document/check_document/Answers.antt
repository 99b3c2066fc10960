use Rattle.std.proofs.Common.{rules, ◌≡◌, ◌∙◌, ℕ, List, Option, Some, None, ap, get_or, is_some, refl, subst, sym}
use Rattle.std.specs.Option.{option_and_then, option_map}
use Rattle.std.specs.List.{Contains}
use Rattle.std.proofs.lemmas.List.Elements.{Contains-get_or}
use Rattle.file_format.specs.File.{blocks_of_entries, document_of}
use Rattle.file_format.specs.Listed.{as_directory}
use Rattle.file_format.proofs.LooksLemmas.{OnlyReadsStore-trans, held_before, still_holds}
use Rattle.file_report.specs.Findings.{IsSo, directory_extent, directory_sum, named_directory}
use Rattle.file_report.specs.declared.finding.Named.{Named}
use Rattle.file_format.specs.declared.file.Extent.{Extent}
use Rattle.file_format.specs.declared.file.Slot.{Slot}
use Rattle.file_format.specs.declared.directory.Directory.{Directory}
use Rattle.file_format.specs.declared.stored_directory.ReadDirectory.{ReadDirectory}
use Rattle.file_format.specs.Reading.{IsDirectoryRead}
use Rattle.file_report.specs.Reading.{IsSoIn, IsSoOfEntries, IsSoOfRead}
use Rattle.file_format.specs.declared.stored_directory.ReadDirectory.TheVariants.{Right, Wrong}
use Rattle.file_report.proofs.FindingsLemmas.{finds_both, finds_as}
use Rattle.file_report.proofs.document.check_document.Goals as goal

read_named : (s : Slot) (name : Named) (sum : Option ℕ) (e : Extent) (r : ReadDirectory) (file : List ℕ) → sum ≡ directory_sum s name → e ≡ directory_extent s name → IsDirectoryRead s.version sum e r file
    → IsDirectoryRead s.version (directory_sum s name) (directory_extent s name) r file
read_named s name sum e r file sum_is e_is read =
    subst (λ u. IsDirectoryRead s.version u (directory_extent s name) r file) sum_is (subst (λ x. IsDirectoryRead s.version sum x r file) e_is read)

found_named : (s : Slot) (name : Named) (sum : Option ℕ) (e : Extent) (r : ReadDirectory) (d : Directory) (file : List ℕ) → r ≡ Right d → sum ≡ directory_sum s name → e ≡ directory_extent s name
    → IsDirectoryRead s.version sum e r file → named_directory file s name ≡ Some (as_directory d)
found_named s name sum e r d file is sum_is e_is read =
    subst (λ q. IsDirectoryRead s.version (directory_sum s name) (directory_extent s name) q file) is (read_named s name sum e r file sum_is e_is read)

pub returns-in_err-stands-in-Right-clause-looks : goal.returns-in_err-stands-in-Right-clause-looks
returns-in_err-stands-in-Right-clause-looks g c = OnlyReadsStore-trans _ _ _ (λ so. g.met.S.Store.timely c.args.store.now so) c.look_for_directory.ensures.looks c.check_images.ensures.looks

pub returns-in_ok-stands-in-Right-clause-looks : goal.returns-in_ok-stands-in-Right-clause-looks
returns-in_ok-stands-in-Right-clause-looks g c = OnlyReadsStore-trans _ _ _ (λ so. g.met.S.Store.timely c.args.store.now so) c.look_for_directory.ensures.looks c.check_images.ensures.looks

pub returns-in_ok-stands-in-Right-clause-found : goal.returns-in_ok-stands-in-Right-clause-found
returns-in_ok-stands-in-Right-clause-found g c =
    let s = c.args.slot.now in
    let name = c.args.name in
    let facts = g.S.Store.facts c.args.store.now in
    let file = facts.content in
    let so = IsSoIn facts s in
    let d = c.in-Right.directory in
    let is : c.in_ok-read.read ≡ Right d = search rules in
    let looks = c.look_for_directory.ensures.looks in
    let listed = c.deref.result.now in
    finds_both so _ _ _
    (finds_as (IsSoOfRead c.args.file_length s name c.in_ok-read.read) so _ _
    (λ f true_of honest. true_of file (c.requires honest) (read_named s name _ _ c.in_ok-read.read file c.directory_sum-sum.ensures c.directory_extent-extent.ensures (c.in_ok-read.ensures.read honest)))
    c.in_ok-note_directory.ensures.found)
    (finds_as (IsSoOfEntries (g.S.Store.facts c.look_for_directory.new.store) name listed) so _ _
    (λ f true_of honest. held_before (λ bytes. IsSo bytes s f) _ _ looks
    (λ honest_then. true_of s honest_then (λ k e within. record {
      directory = as_directory d;
      found = still_holds (λ bytes. named_directory bytes s name ≡ Some (as_directory d)) _ _ looks
          (λ honest_now. found_named s name _ _ c.in_ok-read.read d file is c.directory_sum-sum.ensures c.directory_extent-extent.ensures (c.in_ok-read.ensures.read honest_now)) honest_then;
      listed = subst (λ es. Contains es (get_or listed k e)) c.deref.ensures.value (Contains-get_or listed k e within);
    })) honest) c.in_ok-stands-in-Right.ensures.found)

some_map : {A B : Type 0} (f : A → B) (o : Option A) → is_some (option_map f o) ≡ is_some o
some_map f None = refl
some_map f (Some x) = refl

pub returns-in_ok-stands-in-Right-clause-document : goal.returns-in_ok-stands-in-Right-clause-document
returns-in_ok-stands-in-Right-clause-document g c honest =
    let s = c.args.slot.now in
    let facts = g.S.Store.facts c.args.store.now in
    let file = facts.content in
    let d = c.in-Right.directory in
    let is : c.in_ok-read.read ≡ Right d = search rules in
    let found : named_directory file s c.args.name ≡ Some (as_directory d) =
    found_named s c.args.name _ _ c.in_ok-read.read d file is c.directory_sum-sum.ensures c.directory_extent-extent.ensures (c.in_ok-read.ensures.read honest) in
    let have = c.in_ok-stands-in-Right.stands in
    let listed : have ≡ is_some (blocks_of_entries file c.deref.result.now) =
    held_before (λ bytes. have ≡ is_some (blocks_of_entries bytes c.deref.result.now)) facts (g.S.Store.facts c.look_for_directory.new.store) c.look_for_directory.ensures.looks c.in_ok-stands-in-Right.ensures.images honest in
    let there : have ≡ is_some (blocks_of_entries file (as_directory d).entries) = subst (λ es. have ≡ is_some (blocks_of_entries file es)) c.deref.ensures.value listed in
    record {
      directory = sym found;
      stands = there ∙ sym (some_map _ (blocks_of_entries file (as_directory d).entries)) ∙ ap (λ o. is_some (option_and_then (document_of file) o)) (sym found);
    }

pub returns-in-Wrong-clause-document : goal.returns-in-Wrong-clause-document
returns-in-Wrong-clause-document g c honest =
    let s = c.args.slot.now in
    let name = c.args.name in
    let file = (g.S.Store.facts c.args.store.now).content in
    let is : c.in_ok-read.read ≡ Wrong c.in-Wrong._bytes = search rules in
    let read = read_named s name _ _ c.in_ok-read.read file c.directory_sum-sum.ensures c.directory_extent-extent.ensures (c.in_ok-read.ensures.read honest) in
    let none : named_directory file s name ≡ None = (subst (λ r. IsDirectoryRead s.version (directory_sum s name) (directory_extent s name) r file) is read).1 in
    record {
      directory = ap (option_map as_directory) c.nothing-in-Wrong.ensures.0 ∙ sym none;
      stands = c.nothing-in-Wrong.ensures.1 ∙ ap (λ o. is_some (option_and_then (document_of file) o)) (sym none);
    }
