-- What the options tell of a match, and what an error of one comes to.
use Rattle.std.proofs.Common.{◌||◌, ◌≡◌, ◌∙◌, ◌≤◌, ap, ℕ, Bool, true, false, List, [], Option, Some, None, Result, Ok, refl, sym, subst, inl, inr, arith, codes, pos}
use Rattle.std.specs.Option.{option_eq, option_map, option_map_or, unwrap_or}
use Rattle.std.specs.Prelude.{◌⊎◌, IfSome}
use Rattle.std.specs.Borrow.{Bor}
use Rattle.std.specs.Str.{bytes_eq}
use Rattle.std.specs.Str.Parse.{ParsesUnsigned}
use Rattle.std.proofs.lemmas.Slice.Eq.{bytes_eq-Decides}
use Rattle.clap.specs.Matches.{ReadsOne, first_value, one_text}
use Rattle.clap.specs.Values.{IsSignedIn}
use Rattle.clap.specs.Lexer.{without_minus}
use Rattle.clap.specs.Walk.{Row, first_of, one_of, rows_of}
use Rattle.clap.specs.Kinds.{IsAmong}
use Rattle.clap.specs.Words.{Text, fault_of, matches_of}
use Rattle.clap.specs.declared.error.kind.ErrorKind.{ErrorKind}
use Rattle.clap.specs.declared.error.kind.ErrorKind.TheVariants.{DisplayHelp, DisplayVersion, OutOfMemory}
use Rattle.clap.specs.declared.parser.matches.Found.{Found}
use Rattle.clap.proofs.CallerReads.{signed_reads}
use Rattle.clap.proofs.WalkLemmas.{first_value-rows, one_text-rows}
use Rattle.command_lines.specs.Options.{CommandLine, IsFlag, IsLimit, IsMatched, RefusesWords, TurnsInto, command_line, geosvm, has_flag, read_number, said}
use Rattle.command_lines.specs.declared.asked.NoOptions.{NoOptions}
use Rattle.command_lines.specs.declared.asked.NoOptions.TheVariants as no_options

abbrev pub is_set : Option Text → Bool
is_set o = option_map_or (λ t. bytes_eq t (codes "true")) o false

abbrev pub number_in : Option Text → ℕ
number_in o = option_map_or read_number o 8

-- the flag, as its getter reads it
flag_at : (o : Option Text) (b : Bool) → ((t : Text) → o ≡ Some t → (bytes_eq t (codes "true") || bytes_eq t (codes "false")) ≡ true)
    → (o ≡ None → b ≡ false) → (o ≡ Some (codes "true") → b ≡ true) → (o ≡ Some (codes "false") → b ≡ false) → b ≡ is_set o
flag_at None b test none on off = none refl
flag_at (Some t) b test none on off = go (bytes_eq t (codes "true")) refl
  where
    go : (same : Bool) → bytes_eq t (codes "true") ≡ same → b ≡ bytes_eq t (codes "true")
    go true e = on (ap Some ((bytes_eq-Decides t (codes "true")).0 e)) ∙ sym e
    go false e =
        let other : bytes_eq t (codes "false") ≡ true = rw e at (test t refl) in
        off (ap Some ((bytes_eq-Decides t (codes "false")).0 other)) ∙ sym e

pub flag_told : (f : Found) (name : Text) (b : Bool) → IsFlag f name → (one_text f name ≡ None → b ≡ false)
    → (one_text f name ≡ Some (codes "true") → b ≡ true) → (one_text f name ≡ Some (codes "false") → b ≡ false)
    → b ≡ has_flag name (rows_of f)
flag_told f name b h none on off = flag_at _ b h none on off ∙ ap is_set (one_text-rows f name)

-- the number of frames, as its getter reads it
pub record IsFrames (o : Option Text) (n : ℕ) : Type 0 where
  pub is : n ≡ number_in o
  pub low : 1 ≤ n
  pub high : n ≤ 64

frames_at : {E : Type 0} (G : Text → Result ℕ E → Type 0) (only : (u : Text) (x : Result ℕ E) → G u x → ParsesUnsigned 8 10 u x)
    (o : Option Text) (r : Option ℕ) → ((t : Text) → o ≡ Some t → (raw : Text) × (t ≡ without_minus raw) × IsSignedIn (pos 1) (pos 64) raw)
    → (o ≡ None → r ≡ None) → ((t : Text) → o ≡ Some t → ReadsOne G t r) → IsFrames o (unwrap_or r 8)
frames_at G only None r test none some = rw (none refl) (record { is = refl; low = omega arith; high = omega arith })
frames_at {E} G only (Some t) r test none some =
    let raw = test t refl in
    let got = signed_reads E G 8 1 64 raw.0 r (subst (λ (u : Text). ReadsOne G u r) raw.1 (some t refl)) only (omega arith) raw.2 in
    let read : ReadsOne G t (Some got.0) = subst (λ (x : Option ℕ). ReadsOne G t x) got.1 (some t refl) in
    let value : got.0 ≡ read_number t = (only t (Ok got.0) read).1 in
    let low : 1 ≤ got.0 = got.2 in
    let high : got.0 ≤ 64 = got.3 in
    rw got.1 (record { is = value; low = low; high = high })

pub frames_told : {E : Type 0} (G : Text → Result ℕ E → Type 0) (only : (u : Text) (x : Result ℕ E) → G u x → ParsesUnsigned 8 10 u x)
    (f : Found) (r : Option ℕ) → IsMatched f → (one_text f (codes "cache") ≡ None → r ≡ None)
    → ((t : Text) → one_text f (codes "cache") ≡ Some t → ReadsOne G t r)
    → IsFrames (one_of (codes "cache") (rows_of f)) (unwrap_or r 8)
frames_told G only f r h none some =
    subst (λ (o : Option Text). IsFrames o (unwrap_or r 8)) (one_text-rows f (codes "cache")) (frames_at G only _ r h.number none some)

-- the limit of steps, as its getter reads it
pub record IsTold (o : Option Text) (r : Option ℕ) : Type 0 where
  pub is : r ≡ option_map read_number o
  pub limit : IfSome r IsLimit

limit_at : {E : Type 0} (G : Text → Result ℕ E → Type 0) (only : (u : Text) (x : Result ℕ E) → G u x → ParsesUnsigned 32 10 u x)
    (o : Option Text) (r : Option ℕ) → ((t : Text) → o ≡ Some t → (raw : Text) × (t ≡ without_minus raw) × IsSignedIn (pos 1) (pos 4294967295) raw)
    → (o ≡ None → r ≡ None) → ((t : Text) → o ≡ Some t → ReadsOne G t r) → IsTold o r
limit_at G only None r test none some = rw (none refl) (record { is = refl; limit = tt })
limit_at {E} G only (Some t) r test none some =
    let raw = test t refl in
    let got = signed_reads E G 32 1 4294967295 raw.0 r (subst (λ (u : Text). ReadsOne G u r) raw.1 (some t refl)) only (omega arith) raw.2 in
    let read : ReadsOne G t (Some got.0) = subst (λ (x : Option ℕ). ReadsOne G t x) got.1 (some t refl) in
    let value : got.0 ≡ read_number t = (only t (Ok got.0) read).1 in
    rw got.1 (record { is = ap Some value; limit = (got.2, got.3) })

pub limit_told : {E : Type 0} (G : Text → Result ℕ E → Type 0) (only : (u : Text) (x : Result ℕ E) → G u x → ParsesUnsigned 32 10 u x)
    (f : Found) (r : Option ℕ) → IsMatched f → (one_text f (codes "undo") ≡ None → r ≡ None)
    → ((t : Text) → one_text f (codes "undo") ≡ Some t → ReadsOne G t r)
    → IsTold (one_of (codes "undo") (rows_of f)) r
limit_told G only f r h none some =
    subst (λ (o : Option Text). IsTold o r) (one_text-rows f (codes "undo")) (limit_at G only _ r h.limit none some)

-- all of them
pub told_is : (f : Found) (is_new checksums bails echoes : Bool) (cache : ℕ) (undo_limit : Option ℕ) (target : Option Text) (file : Text) → is_new ≡ has_flag (codes "new") (rows_of f)
    → checksums ≡ has_flag (codes "checksums") (rows_of f)
    → bails ≡ has_flag (codes "bail") (rows_of f) → echoes ≡ has_flag (codes "echo") (rows_of f)
    → cache ≡ number_in (one_of (codes "cache") (rows_of f)) → undo_limit ≡ option_map read_number (one_of (codes "undo") (rows_of f)) → target ≡ first_value f (codes "as") → Some file ≡ first_value f (codes "file")
    → ◌≡◌ {A = CommandLine} (record { is_new = is_new; checksums = checksums; bails = bails; echoes = echoes; cache = cache; undo_limit = undo_limit; target = target; file = file }) (said (rows_of f))
told_is f is_new checksums bails echoes cache undo_limit target file n s b e c u t w =
    let target_is : target ≡ first_of (codes "as") (rows_of f) = t ∙ first_value-rows f (codes "as") in
    let file_is : file ≡ unwrap_or (first_of (codes "file") (rows_of f)) [] =
    ap (λ (o : Option Text). unwrap_or o []) (w ∙ first_value-rows f (codes "file")) in
    λ i. record { is_new = n i; checksums = s i; bails = b i; echoes = e i; cache = c i; undo_limit = u i; target = target_is i; file = file_is i }

-- ---- what an error comes to

pub refused : (words : List Text) (kind : ErrorKind) (o : NoOptions) → (kind ≡ OutOfMemory) ⊎ IsAmong kind (fault_of geosvm words) → TurnsInto kind o → RefusesWords words o
refused words kind (no_options.Usage text) (inl e) t = absurd (t.2 e)
refused words kind (no_options.Usage text) (inr a) t = (kind, a, t.0, t.1)
refused words kind (no_options.Help text) (inl e) t =
    let bad : DisplayHelp ≡ OutOfMemory = sym t ∙ e in
    cc
refused words kind (no_options.Help text) (inr a) t = subst (λ (k : ErrorKind). IsAmong k (fault_of geosvm words)) t a
refused words kind (no_options.Version text) (inl e) t =
    let bad : DisplayVersion ≡ OutOfMemory = sym t ∙ e in
    cc
refused words kind (no_options.Version text) (inr a) t = subst (λ (k : ErrorKind). IsAmong k (fault_of geosvm words)) t a
refused words kind no_options.SameFile h t = absurd t
refused words kind no_options.Memory h t = tt

pub line_is : (words : List Text) (rows : List Row) (line : CommandLine) → fault_of geosvm words ≡ [] → rows ≡ matches_of geosvm words → line ≡ said rows
    → command_line words ≡ Some line
line_is words rows line none is l = rw none (ap (λ (r : List Row). Some (said r)) (sym is) ∙ ap Some (sym l))

pub same_target : (target : Option (Bor Text)) (file : Bor Text) → option_eq (λ a b. bytes_eq a.now b.now) target (Some file) ≡ true
    → option_map (λ t. t.now) target ≡ Some file.now
same_target None file e = cc
same_target (Some t) file e = ap Some ((bytes_eq-Decides t.now file.now).0 e)
