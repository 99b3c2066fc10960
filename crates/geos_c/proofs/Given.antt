-- A number that the program gave is always found, and is its file.
use Rattle.std.proofs.Common.{◌≡◌, ℕ, List, [], ◌∷◌, length, Result, Ok, Err, true, false, refl, sym, ap, ◌∙◌, ◌^◌, ◌-◌, arith, inl, inr}
use Rattle.host_store.specs.System.{AreInterrupted, GivesUpOn, IsInterruptedOften, IsNotOpenedOrLocked, IsOpenedAndLocked}
use Rattle.host_store.specs.declared.system.SystemFault.{SystemFault}
use Rattle.host_store.specs.declared.system.SystemFault.TheVariants.{Interrupted, Failed}
use Rattle.geos_c.specs.Stores.{FileStore, channel_system_calls, store_on}
use Rattle.geos_c.specs.declared.channel.ChannelFile.{ChannelFile}
use Rattle.geos_c.specs.declared.channel.ChannelSystem.{ChannelSystem}
use Rattle.c_sessions.specs.declared.files.FileNumber.{FileNumber}

module _ (path : List ℕ) (old : ChannelSystem) where
  abbrev finds : ChannelSystem → Result FileNumber SystemFault → ChannelSystem → Type 0
  finds = λ s. channel_system_calls.opens s path false

  uninterrupted : (states : List ChannelSystem) (new : ChannelSystem) → AreInterrupted finds old states new → (states ≡ []) × (new ≡ old)
  uninterrupted [] new is = (refl, is)
  uninterrupted (s ∷ states) new is = let wrong : Err Interrupted ≡ Ok s.number = is.1.1 in absurd (cc wrong)

  at_once : (n : ℕ) (new : ChannelSystem) → IsInterruptedOften finds old n new → (n ≡ 0) × (new ≡ old)
  at_once n new often =
      let none = uninterrupted often.states new often.interrupted in
      (sym often.count ∙ ap (λ (l : List ChannelSystem). length l) none.0, none.1)

  not_given_up : (new : ChannelSystem) → GivesUpOn finds old new → ⊥
  not_given_up new given_up = elim given_up [
    | inl failed ↦ (let wrong : Err Failed ≡ Ok failed.last.number = failed.made.1 in absurd (cc wrong))
    | inr often ↦ (let none : 2 ^ 64 - 1 ≡ 0 = (at_once _ new often).0 in omega (arith, none))
  ]

  pub never_refused : (new : ChannelSystem) → IsNotOpenedOrLocked channel_system_calls path false old new → ⊥
  never_refused new refused = elim refused [
    | inl not_named ↦ elim not_named [
      | inl given_up ↦ not_given_up new given_up
      | inr unnamed ↦ (let wrong : false ≡ true = unnamed.3 in absurd (cc wrong))
    ]
    | inr in_use ↦ (let wrong : Err in_use.fault ≡ Ok (record { number = in_use.handle }) = in_use.locks.1 in absurd (cc wrong))
  ]

  pub is_file : (file : ChannelFile) (new : ChannelSystem) → IsOpenedAndLocked channel_system_calls path false old file new → file ≡ record { number = old.number }
  is_file file new opened =
      let same : opened.opens.last ≡ old = (at_once _ opened.opens.last opened.opens.interrupted).1 in
      let found : Ok opened.handle ≡ Ok opened.opens.last.number = opened.opens.made.1 in
      let locked : Ok file ≡ Ok (record { number = opened.handle }) = opened.locks.1 in
      cc (same, found, locked)

pub is_store : (s : FileStore) (n : FileNumber) → s.file ≡ record { number = n } → s.has_failed_sync ≡ false → s.failures ≡ 0 → s ≡ store_on n
is_store s n file syncs failures = λ i. record { file = file i; has_failed_sync = syncs i; failures = failures i }
