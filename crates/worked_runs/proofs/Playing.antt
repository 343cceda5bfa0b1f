-- Runs as they are computed, for databases that are written out. Assumes nothing.
use Rattle.std.proofs.Common.{ℕ, zero, suc, ◌+◌, ◌-◌, ◌/◌, ◌%◌, Bool, true, false, cond, ◌&&◌, nat_lt, nat_le, ◌==◌, List, [], ◌∷◌, ◌++◌, map, length, get_or, Option, Some, None}
use Rattle.fault.specs.declared.Refusal.{Refusal}
use Rattle.fault.specs.declared.Layer.{Layer}
use Rattle.fault.specs.declared.Layer.TheVariants.{Bench}
use Rattle.level.specs.declared.letter.Letter.{Letter}
use Rattle.level.specs.declared.letter.Letter.TheVariants.{Zero, One, Unknown}
use Rattle.grammar.specs.declared.draft.Class.TheVariants.{Bus}
use Rattle.database.specs.Rows.{Database, node}
use Rattle.control.specs.Points.{Point, bit_of, step_of, below, points, held_points, symbols_of, rank_of, width_of, point_of, input_bits, held_bits, register_bits, held_step, held_count}
use Rattle.control.specs.Letters.{Letters, node_bit, node_letter}
use Rattle.control.specs.Rules.{step_letter, driven, next_bit, passed_to, reset_letter}
use Rattle.control.specs.Runs.{LaneCall, open_with, drive, clock, reset, look, LaneAnswer, done, told, refused, is_amiss}

-- two letters are the same
abbrev pub same : Letter → Letter → Bool
same Zero Zero = true
same One One = true
same Unknown Unknown = true
same a b = false

-- a test holds of 0, .. n - 1
abbrev pub each_below : ℕ → (ℕ → Bool) → Bool
each_below zero f = true
each_below (suc n) f = each_below n f && f n

-- a test holds of the rows 1, .. n
abbrev pub each_row : ℕ → (ℕ → Bool) → Bool
each_row n f = each_below n (λ i. f (i + 1))

-- held letters that are written out; the rest is X
abbrev pub held : List Letter → Letters
held xs p = get_or xs p Unknown

-- the letters of points, and of the bits of each node
pub record Table : Type 0 where
  pub points : List Letter
  pub nodes : List (List Letter)

abbrev pub letters : Table → Letters
letters t r =
    cond (nat_lt r 1088) (get_or t.points r Unknown) (get_or (get_or t.nodes ((r - 1088) / 32) []) ((r - 1088) % 32) Unknown)

-- The letters of a database under held letters: the letters of points, then those of nodes, each from the ones made before; this is
-- done again for each bus that may wait for another, and a last time for the outputs. Nothing is said of them: they are tested.
abbrev pub point_by : Bool → Database → Letters → Letters → ℕ → ℕ → Letter
point_by true d h w y b = h (point_of d y b)
point_by false d h w y b = driven d w y b

abbrev pub point_letter : Database → Letters → Letters → Point → Letter
point_letter d h w (bit_of y b) = point_by (nat_le (rank_of d y) 2) d h w y b
point_letter d h w (step_of s) = h (held_step d s)

abbrev pub with_node : Database → List Letter → ℕ → List (List Letter) → List (List Letter)
with_node d ps n before = before ++ map (node_letter d (letters (record { points = ps; nodes = before })) (n + 1)) (below (node d (n + 1)).width) ∷ []

abbrev pub node_letters : Database → List Letter → ℕ → List (List Letter)
node_letters d ps zero = []
node_letters d ps (suc n) = with_node d ps n (node_letters d ps n)

abbrev pub with_nodes : Database → List Letter → Table
with_nodes d ps = record { points = ps; nodes = node_letters d ps (length d.nodes) }

abbrev pub pass : Database → Letters → Table → Table
pass d h t = with_nodes d (map (point_letter d h (letters t)) (points d))

abbrev pub passes : ℕ → Database → Letters → Table
passes zero d h = record { points = []; nodes = [] }
passes (suc n) d h = pass d h (passes n d h)

abbrev pub settle : Database → Letters → Table
settle d h = passes (2 + length (symbols_of d Bus)) d h

-- the equations of `Settled`, tested
abbrev pub held_right : Database → Letters → Letters → Bool
held_right d h w = each_below (held_bits d) (λ p. same (w p) (h p))

abbrev pub steps_right : Database → Letters → Letters → Bool
steps_right d h w = each_row (length d.steps) (λ s. same (step_letter d w s) (h (held_step d s)))

abbrev pub node_right : Database → Letters → ℕ → Bool
node_right d w n = each_below (node d n).width (λ b. same (node_bit w n b) (node_letter d w n b))

abbrev pub driven_right : Database → Letters → Bool → ℕ → Bool
driven_right d w true y = each_below (width_of d y) (λ b. same (w (point_of d y b)) (driven d w y b))
driven_right d w false y = true

abbrev pub settled_by : Database → Letters → Letters → Bool
settled_by d h w =
    (held_right d h w && steps_right d h w)
    && (each_row (length d.nodes) (node_right d w) && each_row (length d.symbols) (λ y. driven_right d w (nat_le 3 (rank_of d y)) y))

-- letters settled under held letters, if they are known
abbrev pub tested : Bool → Table → Option Table
tested true t = Some t
tested false t = None

abbrev pub settled_some : Database → Letters → Table → Option Table
settled_some d h t = tested (settled_by d h (letters t)) t

abbrev pub fresh : Database → List Letter → Option Table → Option Table
fresh d hs None = settled_some d (held hs) (settle d (held hs))
fresh d hs (Some t) = Some t

-- held letters, changed: letter by letter, and tested
abbrev pub held_by : Database → (ℕ → ℕ → Letter) → (ℕ → Letter) → Point → Letter
held_by d bits steps (bit_of y b) = bits y b
held_by d bits steps (step_of s) = steps s

abbrev pub changed : Database → (ℕ → ℕ → Letter) → (ℕ → Letter) → List Letter
changed d bits steps = map (held_by d bits steps) (held_points d)

-- so few letters that none is beyond those that are held
abbrev pub few : Database → List Letter → Bool
few d xs = nat_le (length xs) (held_count d)

abbrev pub reset_right : Database → Letters → Bool
reset_right d u = each_row (length d.steps) (λ s. same (u (held_step d s)) (reset_letter d s))

abbrev pub start_letter : Database → List Letter → Bool → ℕ → Letter
start_letter d starts true p = Zero
start_letter d starts false p = get_or starts (p - input_bits d) Unknown

abbrev pub opened : Database → List Letter → List Letter
opened d starts = changed d (λ y b. start_letter d starts (nat_lt (point_of d y b) (input_bits d)) (point_of d y b)) (reset_letter d)

abbrev pub opened_by : Database → List Letter → Letters → Bool
opened_by d starts u =
    each_below (input_bits d) (λ p. same (u p) Zero)
    && (each_below (register_bits d) (λ i. same (u (input_bits d + i)) (get_or starts i Unknown)) && reset_right d u)

abbrev pub put : Bool → Letter → Letter → Letter
put true x y = x
put false x y = y

abbrev pub was_driven : Database → ℕ → Letter → Letters → List Letter
was_driven d n x h = map (λ p. put (p == n) x (h p)) (below (held_count d))

abbrev pub driven_by : Database → ℕ → Letter → Letters → Letters → Bool
driven_by d n x h u = same (u n) x && each_below (held_count d) (λ p. cond (p == n) true (same (u p) (h p)))

abbrev pub next_letter : Database → Letters → Letters → Bool → ℕ → ℕ → Letter
next_letter d h w true y b = next_bit d w y b
next_letter d h w false y b = h (point_of d y b)

abbrev pub followed : Database → Letters → Letters → List Letter
followed d h w = changed d (λ y b. next_letter d h w (rank_of d y == 2) y b) (passed_to d w)

abbrev pub register_right : Database → Letters → Letters → Bool → ℕ → Bool
register_right d w u true y = each_below (width_of d y) (λ b. same (u (point_of d y b)) (next_bit d w y b))
register_right d w u false y = true

abbrev pub follows_by : Database → Letters → Letters → Letters → Bool
follows_by d w h u =
    each_row (length d.symbols) (λ y. register_right d w u (rank_of d y == 2) y)
    && (each_row (length d.steps) (λ s. same (u (held_step d s)) (passed_to d w s)) && each_below (input_bits d) (λ p. same (u p) (h p)))

abbrev pub was_reset : Database → Letters → List Letter
was_reset d h = changed d (λ y b. h (point_of d y b)) (reset_letter d)

abbrev pub reset_by : Database → Letters → Letters → Bool
reset_by d h u = reset_right d u && each_below (held_bits d) (λ p. same (u p) (h p))

-- What goes on from held letters, with letters settled under them or none yet.
abbrev pub On : Type 0
On = List Letter → Option Table → Bool

-- a call that leaves these letters held, if that is tested
abbrev pub leaves : Database → On → List Letter → Bool → Bool
leaves d on us right = (right && few d us) && on us None

abbrev pub opens : Database → List Letter → On → List Letter → Bool
opens d starts on us = leaves d on us (opened_by d starts (held us))

abbrev pub drives : Database → ℕ → Letter → On → List Letter → List Letter → Bool
drives d n x on hs us = leaves d on us (driven_by d n x (held hs) (held us))

abbrev pub resets : Database → On → List Letter → List Letter → Bool
resets d on hs us = leaves d on us (reset_by d (held hs) (held us))

abbrev pub clocks_to : Database → On → List Letter → Table → List Letter → Bool
clocks_to d on hs t us = leaves d on us (follows_by d (letters t) (held hs) (held us))

abbrev pub clocks : Database → On → List Letter → Option Table → Bool
clocks d on hs None = false
clocks d on hs (Some t) = clocks_to d on hs t (followed d (held hs) (letters t))

abbrev pub looks : ℕ → Letter → On → List Letter → Option Table → Bool
looks p x on hs None = false
looks p x on hs (Some t) = same x (letters t p) && on hs (Some t)

abbrev pub makes : Database → LaneCall → LaneAnswer → On → On
makes d (open_with starts) done on hs o = opens d starts on (opened d starts)
makes d (drive n x) done on hs o = drives d n x on hs (was_driven d n x (held hs))
makes d clock done on hs o = clocks d on hs (fresh d hs o)
makes d reset done on hs o = resets d on hs (was_reset d (held hs))
makes d (look p) (told x) on hs o = looks p x on hs (fresh d hs o)
makes d c a on hs o = false

-- the refusal of a call that is amiss
abbrev pub is_bench : Layer → Bool
is_bench Bench = true
is_bench layer = false

abbrev pub tells_amiss : Refusal → Bool
tells_amiss r = (r.number == 25 && r.place == 0) && is_bench r.layer

-- a call that is amiss is refused, and then all goes on as it was
abbrev pub refuses : LaneAnswer → On → On
refuses (refused r) on hs o = tells_amiss r && on hs o
refuses a on hs o = false

abbrev pub turn : Bool → Database → LaneCall → LaneAnswer → On → On
turn true d c a on hs o = refuses a on hs o
turn false d c a on hs o = makes d c a on hs o

-- the calls get these answers
abbrev pub plays : Database → List LaneCall → List LaneAnswer → On
plays d [] [] hs o = true
plays d [] (a ∷ answers) hs o = false
plays d (c ∷ cs) [] hs o = false
plays d (c ∷ cs) (a ∷ answers) hs o = turn (is_amiss d c) d c a (plays d cs answers) hs o
