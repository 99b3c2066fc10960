-- Findings, one after another.
use Rattle.std.proofs.Common.{◌≡◌, ℕ, zero, suc, ◌≤◌, ◌++◌, ◌∷◌, [], List, All, length, Bool, false, sym, ap, ap₂, ◌∙◌, arith, subst}
use Rattle.std.proofs.lemmas.List.{append-nil, append_assoc, length-append}
use Rattle.std.proofs.lemmas.List.Elements.{All-append}
use Rattle.geos_model.specs.Words.{word_at}
use Rattle.file_format.specs.File.{entry_read}
use Rattle.file_format.specs.declared.file.Entry.{Entry}
use Rattle.geos_model.specs.declared.handle.VmHandle.{VmHandle}
use Rattle.file_report.specs.Findings.{FindsMore, IsNoted, IsSeen, IsUnlisted, IsHeaderFault, IsEntryFault, handle_before, entry_text_at}
use Rattle.file_report.specs.declared.finding.Named.{Named}
use Rattle.file_report.specs.declared.finding.HeaderFault.{HeaderFault}
use Rattle.file_report.specs.declared.finding.EntryFault.{EntryFault}
use Rattle.file_report.specs.declared.finding.Finding.{Finding}
use Rattle.file_report.specs.declared.finding.Finding.TheVariants as finding

pub all_one : {X : Type 0} (P : X → Type 0) (x : X) → P x → All P (x ∷ [])
all_one P x p zero d within = p
all_one P x p (suc k) d within = absurd (omega (arith, within))

pub finds_nothing : (so : Finding → Type 0) (old : List Finding) → FindsMore so old old
finds_nothing so old = record { more = []; is = sym (append-nil old); all = λ k d within. absurd (omega (arith, within)) }

pub finds_one : (so : Finding → Type 0) (old new : List Finding) (f : Finding) → new ≡ old ++ f ∷ [] → so f → FindsMore so old new
finds_one so old new f is p = record { more = f ∷ []; is = is; all = all_one so f p }

pub finds_both : (so : Finding → Type 0) (old mid new : List Finding) → FindsMore so old mid → FindsMore so mid new → FindsMore so old new
finds_both so old mid new first second = record {
  more = first.more ++ second.more;
  is = second.is ∙ ap (λ l. l ++ second.more) first.is ∙ append_assoc old first.more second.more;
  all = All-append so first.more second.more first.all second.all;
}

pub finds_as : (so other : Finding → Type 0) (old new : List Finding) → ((f : Finding) → so f → other f) → FindsMore so old new → FindsMore other old new
finds_as so other old new turns found = record { more = found.more; is = found.is; all = λ k d within. turns _ (found.all k d within) }

pub noted : (so : Finding → Type 0) (old new : List Finding) (f : Finding) (holds : Bool) → (holds ≡ false → so f) → FindsMore (IsNoted holds f) old new → FindsMore so old new
noted so old new f holds is found = finds_as (IsNoted holds f) so old new (λ g p. subst so (sym p.0) (is p.1)) found

pub finds_length : (so : Finding → Type 0) (old new : List Finding) → FindsMore so old new → length old ≤ length new
finds_length so old new found = let is = ap length found.is ∙ length-append old found.more in omega (arith, is)

pub all_found : (so : Finding → Type 0) (old new : List Finding) → All so old → FindsMore so old new → All so new
all_found so old new were found = subst (All so) (sym found.is) (All-append so old found.more were found.all)

-- what is wrong with a directory that was looked through

pub header_seen : (version n : ℕ) (bytes : List ℕ) (name : Named) (fault : HeaderFault) → IsHeaderFault version bytes fault → IsSeen version n bytes name (finding.Header name fault)
header_seen version n bytes name fault wrong file s looked =
    subst (λ b. IsHeaderFault s.version b fault) looked.bytes_are (subst (λ v. IsHeaderFault v bytes fault) looked.version_is wrong)

abbrev pub IsEntrySo : ℕ → ℕ → List ℕ → ℕ → Entry → EntryFault → Type 0
IsEntrySo version n bytes i e fault =
    (e ≡ entry_read (word_at bytes 4) (entry_text_at bytes i)) × IsEntryFault version n (word_at bytes 4) (handle_before bytes i) (entry_text_at bytes i) e fault

entry_seen : (version n : ℕ) (bytes : List ℕ) (name : Named) (i : ℕ) (e : Entry) (fault : EntryFault) → IsEntrySo version n bytes i e fault → IsSeen version n bytes name (finding.Entry name i e fault)
entry_seen version n bytes name i e fault wrong file s looked =
    subst (λ b. IsEntrySo s.version (length file) b i e fault) looked.bytes_are
    (subst (λ m. IsEntrySo s.version m bytes i e fault) looked.length_is (subst (λ v. IsEntrySo v n bytes i e fault) looked.version_is wrong))

-- an entry that was read
pub record IsEntryOf (bytes : List ℕ) (i version last : ℕ) (text : List ℕ) (e : Entry) : Type 0 where
  pub version_is : version ≡ word_at bytes 4
  pub last_is : last ≡ handle_before bytes i
  pub text_is : text ≡ entry_text_at bytes i
  pub entry_is : e ≡ entry_read version text

pub entry_noted : (file_version n : ℕ) (bytes : List ℕ) (name : Named) (i version last : ℕ) (text : List ℕ) (e : Entry) (fault : EntryFault) (old new : List Finding) (holds : Bool) → IsEntryOf bytes i version last text e
    → (holds ≡ false → IsEntryFault file_version n version last text e fault) → FindsMore (IsNoted holds (finding.Entry name i e fault)) old new → FindsMore (IsSeen file_version n bytes name) old new
entry_noted file_version n bytes name i version last text e fault old new holds of wrong = noted _ old new _ holds (λ no. entry_seen file_version n bytes name i e fault (
  of.entry_is ∙ ap₂ entry_read of.version_is of.text_is,
  subst (λ v. IsEntryFault file_version n v (handle_before bytes i) (entry_text_at bytes i) e fault) of.version_is
      (subst (λ l. IsEntryFault file_version n version l (entry_text_at bytes i) e fault) of.last_is
      (subst (λ t. IsEntryFault file_version n version last t e fault) of.text_is (wrong no))),
))

pub map_block_seen : (version n : ℕ) (bytes : List ℕ) (name : Named) (h : VmHandle) → IsUnlisted bytes h.0 → IsSeen version n bytes name (finding.MapBlock name h)
map_block_seen version n bytes name h wrong file s looked = subst (λ b. IsUnlisted b h.0) looked.bytes_are wrong
