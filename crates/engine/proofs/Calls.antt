-- Calls that are not refused. Assumes nothing.
use Rattle.std.proofs.Common.{◌≡◌, ℕ, ◌<◌, ◌≤◌, Bool, false, not, List, length, get_or, refl, ap, sym, subst, ◌∙◌, arith}
use Rattle.std.proofs.lemmas.Bool.{lt-ltb}
use Rattle.std.proofs.lemmas.Bool.Decides.{nat_tests}
use Rattle.std.proofs.lemmas.List.{get_or-set_same, get_or-set_other, length-set}
use Rattle.std.proofs.Math.ListN.{set}
use Rattle.level.specs.declared.Level.{Ghosts}
use Rattle.database.specs.Rows.{Database}
use Rattle.control.specs.Points.{input_bits, point_count}
use Rattle.control.specs.Letters.{Letters}
use Rattle.control.specs.Rules.{Settled, Follows}
use Rattle.control.specs.Runs.{LaneCall, drive, clock, look, LaneAnswer, done, told, is_amiss, refusal_by, Done, CalledBy, Called}
use Rattle.control.specs.Levels.{lane, InEachLane, OnlyIn, HeldRow}
use Rattle.control.specs.Usable.{Usable}
use Rattle.settling.proofs.Points.{inputs_held}
use Rattle.engine.specs.Promise.{both, is_short}
use Rattle.engine.proofs.Opens.{held_few}
use Rattle.engine.proofs.Lanes.{lane_at, lane_same}

-- a table that is not short has its rows
pub long_tables : {X : Type 0} (held work : List X) → is_short (both held work) ≡ false → (1088 ≤ length held) × (17472 ≤ length work)
long_tables held work long = grind (arith, nat_tests)

-- and so one for each input
pub input_room : {X : Type 0} (held work : List X) (d : Database) (n : ℕ) → Usable d → is_short (both held work) ≡ false → n < input_bits d → n < length held
input_room held work d n usable long there = omega (arith, inputs_held d, held_few d usable, (long_tables held work long).0)

-- a call that is not amiss, on tables that are not short
pub called_done : (d : Database) (short : Bool) (h u : Letters) (c : LaneCall) (a : LaneAnswer) → short ≡ false → is_amiss d c ≡ false → Done d h c a u → Called d short h c a u
called_done d short h u c a long right p = subst (λ s. CalledBy (refusal_by s (is_amiss d c)) d h c a u) (sym long) (subst (λ m. CalledBy (refusal_by false m) d h c a u) (sym right) p)

module _ {X : Type 0} (G : Ghosts X) (d : Database) where
  module _ (held : List X) (n : ℕ) (x : X) (input : n < input_bits d) (room : n < length held) where
    pub driven_only : OnlyIn (HeldRow d) held (set held n x)
    driven_only = record {
      length = length-set held n x;
      rows = λ r y unused. get_or-set_other held n r x y (λ e. omega (arith, unused, inputs_held d));
    }

    -- an input was driven
    pub driven_called : (short : Bool) → short ≡ false → InEachLane G (λ k. Called d short (lane G held k) (drive n (G.letters x k)) done (lane G (set held n x) k))
    driven_called short long k inside =
        called_done d short (lane G held k) (lane G (set held n x) k) (drive n (G.letters x k)) done long (ap not (lt-ltb n (input_bits d) input)) (
          refl,
          record {
            driven = lane_at G k (set held n x) n x (omega (arith, length-set held n x)) ∙ ap (λ y. G.letters y k) (get_or-set_same held n x x room);
            others = λ p apart. lane_same G k held (set held n x) p (length-set held n x) (λ y. get_or-set_other held n p x y apart);
          },
        )

  module _ (held work : List X) (settled : InEachLane G (λ k. Settled d (lane G held k) (lane G work k))) (short : Bool) (long : short ≡ false) where
    -- a clock was given
    pub clocked_called : (new : List X) → InEachLane G (λ k. Follows d (lane G work k) (lane G held k) (lane G new k)) → InEachLane G (λ k. Called d short (lane G held k) clock done (lane G new k))
    clocked_called new follows k inside =
        called_done d short (lane G held k) (lane G new k) clock done long refl
        (refl, record { letters = lane G work k; settled = settled k inside; follows = follows k inside })

    -- a point was looked at
    pub looked_called : (p : ℕ) (x : X) → p < point_count d → p < length work → x ≡ get_or work p x → InEachLane G (λ k. Called d short (lane G held k) (look p) (told (G.letters x k)) (lane G held k))
    looked_called p x there room is k inside =
        called_done d short (lane G held k) (lane G held k) (look p) (told (G.letters x k)) long (ap not (lt-ltb p (point_count d) there)) (
          G.letters x k,
          refl,
          record {
            letters = lane G work k;
            settled = settled k inside;
            letter = ap (λ y. G.letters y k) is ∙ sym (lane_at G k work p x room);
          },
          (λ q. refl),
        )
