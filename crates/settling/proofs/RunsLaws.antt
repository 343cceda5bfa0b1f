-- The laws, where a sound database is usable and its points stand in their sums. Assumes nothing.
use Rattle.std.proofs.Common.{◌≡◌, refl}
use Rattle.level.specs.Order.{MayBecome}
use Rattle.database.specs.Rows.{Database}
use Rattle.control.specs.Laws.{OneWay, OneRun, KnownStays, KnownStaysOpened, SoundIsUsable}
use Rattle.settling.proofs.Agree.{PointFacts}
use Rattle.settling.proofs.AgreeTurns.{settled_related}
use Rattle.settling.proofs.Exists.{equal_respects, settled_some}
use Rattle.settling.proofs.Runs.{becomes_respects, run_some, runs_equal, runs_related, opened_runs_related}

module _ (sound_is_usable : SoundIsUsable) (facts : (d : Database) → PointFacts d) where
  pub one_way : OneWay
  one_way bytes d h sound =
      let usable = sound_is_usable bytes d sound in
      (settled_some d usable (facts d) h, (λ v w p q. settled_related (λ a b. a ≡ b) equal_respects d usable (facts d) h h v w (λ k low. refl) p q))

  pub one_run : OneRun
  one_run bytes d short h calls sound =
      let usable = sound_is_usable bytes d sound in
      (run_some d usable (facts d) short h calls, (λ xs ys u v p q. runs_equal d usable (facts d) short h calls xs ys u v p q))

  pub known_stays : KnownStays
  known_stays bytes d short h g calls others xs ys u v sound held by p q =
      (runs_related MayBecome becomes_respects d (sound_is_usable bytes d sound) (facts d) short calls others h g u v xs ys held by p q).0

  pub known_stays_opened : KnownStaysOpened
  known_stays_opened bytes d h g starts calls others xs ys u v sound fits by p q =
      opened_runs_related MayBecome becomes_respects d (sound_is_usable bytes d sound) (facts d) starts calls others h g u v xs ys fits by p q
