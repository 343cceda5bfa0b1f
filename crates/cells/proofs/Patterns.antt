-- Patterns of NAND cells, laid over the operands of a part. Assumes nothing.
use Rattle.std.proofs.Common.{◌≡◌, ℕ, zero, suc, ◌+◌, ◌-◌, ◌<◌, Bool, true, false, List, [], ◌∷◌, ◌++◌, map, length, get_or, sym, refl, ap, ◌∙◌, append_assoc, append-nil, arith}
use Rattle.std.proofs.lemmas.Grind.{common_steps}
use Rattle.std.proofs.lemmas.List.{get_or-map, length-map, get_or-append-add, length_push}
use Rattle.std.proofs.lemmas.Bool.{and_parts}
use Rattle.level.specs.declared.letter.Letter.{Letter}
use Rattle.store.specs.declared.part.PartKind.{PartKind}
use Rattle.store.specs.Meaning.{at}
use Rattle.store.specs.Parts.{price, kind_letter, missing}
use Rattle.cells.specs.declared.nand.NandCell.{NandCell}
use Rattle.cells.specs.declared.part.Part.{Part}
use Rattle.cells.specs.declared.pattern.Pin.{Pin}
use Rattle.cells.specs.declared.pattern.Stage.{Stage}
use Rattle.cells.specs.declared.pattern.Stage.TheVariants as stage
use Rattle.cells.specs.Cells.{Sound, letters_after, letters_of}
use Rattle.cells.specs.Nands.{nand_letter, nand_dangles}
use Rattle.cells.specs.Patterns.{every_letter, has_first, has_second, is_leaf, last_letter, nand_costs, pin_letter, pin_signal, pin_wired, realises, same_letter, stage_cell, stage_letter, stage_wired, stages_after, wired}
use Rattle.cells.specs.Read.{gate_dangles, gate_letter}
use Rattle.cells.specs.Laws.{letters_length}
use Rattle.cells.proofs.Places.{sound_more}
use Rattle.cells.proofs.Letters.{letters_append}

-- the operands that a part has are there
operands_below : (kind : PartKind) (a b n : ℕ) → missing kind a b n ≡ false → (has_first kind ≡ true → a < n) × (has_second kind ≡ true → b < n) × (is_leaf kind ≡ true → a < 1088)
operands_below = grind (arith, common_steps)

-- the stages of a wired pattern are wired
pub wired_at : (kind : PartKind) (stages : List Stage) (n i m : ℕ) (s : Stage) → m ≡ n + i → i < length stages → wired kind n stages ≡ true → stage_wired kind m (get_or stages i s) ≡ true
wired_at kind [] n i m s e h w = absurd (omega arith)
wired_at kind (t ∷ stages) n zero m s e h w = grind arith
wired_at kind (t ∷ stages) n (suc i) m s e h w = wired_at kind stages (suc n) i m s (omega arith) (omega arith) (and_parts (stage_wired kind n t) _ w).1

module _ (part : Part) (base : ℕ) (there : gate_dangles base part ≡ false) where
  -- the cell of a wired stage does not dangle
  pub stage_dangles : (n : ℕ) (s : Stage) → stage_wired part.kind n s ≡ true → nand_dangles (base + n) (stage_cell part base s) ≡ false
  stage_dangles n s w = grind (arith, common_steps, operands_below part.kind part.first part.second base there)

  -- over the signals s of a store and the letters of the stages before, a stage's cell has the stage's letter
  module _ (leaves s : List Letter) (size : length s ≡ base) where
    pin_letter_lem : (p : Pin) (before : List Letter) → pin_wired part.kind (length before) p ≡ true → at (s ++ before) (pin_signal part base p) ≡ pin_letter (at leaves part.first) (at s part.first) (at s part.second) before p
    pin_letter_lem p before w = grind (arith, common_steps, operands_below part.kind part.first part.second base there)

    stage_letter_lem : (t : Stage) (before : List Letter) → stage_wired part.kind (length before) t ≡ true → nand_letter (stage_cell part base t) leaves (s ++ before) ≡ stage_letter (at leaves part.first) (at s part.first) (at s part.second) before t
    stage_letter_lem t before w = grind (arith, common_steps, pin_letter_lem)

    -- the letters of the cells are those of the stages
    pub stages_letters : (stages : List Stage) (before : List Letter) (n : ℕ) → length before ≡ n → wired part.kind n stages ≡ true → letters_after nand_letter leaves (map (stage_cell part base) stages) (s ++ before) ≡ s ++ stages_after (at leaves part.first) (at s part.first) (at s part.second) stages before
    unfolding letters_after
    stages_letters [] before n l w = refl
    stages_letters (t ∷ stages) before n l w =
        let x : Letter = stage_letter (at leaves part.first) (at s part.first) (at s part.second) before t in
        grind (arith, stage_letter_lem t before, append_assoc s before (x ∷ []), length_push before x, stages_letters stages (before ++ x ∷ []) (suc n))

-- the cells of a wired pattern do not dangle
pub pattern_sound : (part : Part) (cells : List NandCell) (stages : List Stage) → Sound nand_dangles cells → gate_dangles (length cells) part ≡ false → wired part.kind 0 stages ≡ true → Sound nand_dangles (cells ++ map (stage_cell part (length cells)) stages)
pattern_sound part cells stages old there w =
    let base = length cells in
    let cell = stage_cell part base in
    sound_more nand_dangles (map cell stages) cells old
    (λ n c h. grind (arith, length-map {A = Stage} {B = NandCell}, get_or-map cell stages n stage.Zero c, stage_dangles part base there n (get_or stages n stage.Zero), wired_at part.kind stages 0 n n stage.Zero))

-- a test of every letter
every : (test : Letter → Bool) → every_letter test ≡ true → (x : Letter) → test x ≡ true
every = grind (arith, common_steps)

same : (x y : Letter) → same_letter x y ≡ true → x ≡ y
same = grind (arith, common_steps)

-- what the test of a pattern says
pub realised : (kind : PartKind) (stages : List Stage) → realises kind stages ≡ true → (leaf a b : Letter) → last_letter leaf a b stages ≡ kind_letter kind leaf a b
realised kind stages h leaf a b =
    let test : Letter → Letter → Letter → Bool = λ x y z. same_letter (last_letter x y z stages) (kind_letter kind x y z) in
    same _ _ (every (test leaf a) (every (λ y. every_letter (test leaf y)) (every (λ x. every_letter (λ y. every_letter (test x y))) h leaf) a) b)

-- every part takes a cell
pub some_cells : (kind : PartKind) → 0 < price nand_costs kind
some_cells = grind (arith, common_steps)

-- the last cell of a pattern has the letter of the part
pub pattern_means : (part : Part) (cells : List NandCell) (stages : List Stage) (leaves : List Letter) → gate_dangles (length cells) part ≡ false → wired part.kind 0 stages ≡ true → realises part.kind stages ≡ true → at (letters_of nand_letter leaves (cells ++ map (stage_cell part (length cells)) stages)) (length cells + (length stages - 1)) ≡ gate_letter part leaves (letters_of nand_letter leaves cells)
pattern_means part cells stages leaves there w test =
    let s : List Letter = letters_of nand_letter leaves cells in
    let more : List NandCell = map (stage_cell part (length cells)) stages in
    let size : length s ≡ length cells = letters_length nand_letter leaves cells [] ∙ omega arith in
    let e = letters_append nand_letter leaves cells more [] ∙ ap (letters_after nand_letter leaves more) (sym (append-nil s)) ∙ stages_letters part (length cells) there leaves s size stages [] 0 refl w in
    rw (e, ← size, get_or-append-add) (realised part.kind stages test (at leaves part.first) (at s part.first) (at s part.second))
