-- The names of the printed classes, class by class. Assumes nothing.
use Rattle.std.proofs.Common.{◌≡◌, ℕ, ◌+◌, ◌-◌, ◌<◌, ◌≤◌, List, [], ◌++◌, length, get_or, drop, Option, Some, None, zero-add, sym, refl, ap, ◌∙◌, subst, arith}
use Rattle.std.specs.List.{flat_map}
use Rattle.std.specs.Option.{SomeIff, MatchOption}
use Rattle.std.proofs.lemmas.List.{append_assoc, length-append, at_drop_more, at_drop_all}
use Rattle.grammar.specs.declared.draft.Class.{Class}
use Rattle.grammar.specs.declared.draft.Class.TheVariants.{Input}
use Rattle.database.specs.Rows.{Database}
use Rattle.lines.specs.Cursors.{spaced_behind}
use Rattle.lines.specs.Lines.{names_of, printed_names, Printed}
use Rattle.lines.specs.NameLines.{written_at, printed_classes, steps_end}
use Rattle.lines.proofs.SpacedWords.{behind_class, printed_parts}
use Rattle.lines.proofs.NameWrites.{Writing, all_written, part_written, part_fits}

module _ (text : List ℕ) (d : Database) where
  -- the names of the classes from an index on
  abbrev pub names_left : ℕ → List ℕ
  names_left i = spaced_behind (flat_map (names_of text d) (drop i printed_classes))

  -- the names of the class at an index of these
  abbrev pub part : List Class → ℕ → List ℕ
  part classes i = spaced_behind (names_of text d (get_or classes i Input))

  class_left : (i : ℕ) → i < 3 → names_left i ≡ part printed_classes i ++ names_left (i + 1)
  class_left i h =
      at_drop_more (λ cs. spaced_behind (flat_map (names_of text d) cs)) printed_classes i Input h ∙ behind_class text d (get_or printed_classes i Input) (drop (i + 1) printed_classes)

  no_class_left : (i : ℕ) → 3 ≤ i → names_left i ≡ []
  no_class_left i h = at_drop_all (λ cs. spaced_behind (flat_map (names_of text d) cs)) printed_classes i h

  printed_length : length (printed_names text d) ≡ length (names_left 0) + 6
  printed_length = ap length (printed_parts text d) ∙ length-append (names_left 0) steps_end

  -- What is left of the room: with all names it is the room and the names that are left.
  abbrev pub Room : ℕ → ℕ → ℕ → Type 0
  Room room left i = left + length (names_left 0) ≡ room + length (names_left i)

  pub class_reckoned : (room before left i : ℕ) → i < 3 → Room room before i → left + length (part printed_classes i) ≡ before → Room room left (i + 1)
  class_reckoned room before left i h r e = omega (arith, ap length (class_left i h), length-append (part printed_classes i) (names_left (i + 1)))

  pub class_not_fitting : (room before i : ℕ) → i < 3 → Room room before i → before < length (part printed_classes i) → room < length (printed_names text d)
  class_not_fitting room before i h r e = omega (arith, printed_length, ap length (class_left i h), length-append (part printed_classes i) (names_left (i + 1)))

  pub steps_reckoned : (room before i : ℕ) (left : Option ℕ) → 3 ≤ i → Room room before i → SomeIff left (6 ≤ before) (before - 6) → MatchOption left (room < length (printed_names text d)) (λ n. n + length (printed_names text d) ≡ room)
  steps_reckoned room before i None h r e = omega (arith, e, printed_length, ap length (no_class_left i h))
  steps_reckoned room before i (Some n) h r e = omega (arith, e, printed_length, ap length (no_class_left i h))

  module _ (old : List ℕ) where
    -- The names that are left, and STEPS, are still to be written.
    abbrev pub State : List ℕ → ℕ → List ℕ → Type 0
    State new at left = Writing new at (left ++ steps_end) (written_at old 0 (printed_names text d)) (length (printed_names text d)) (length old)

    pub none_written : State old 0 (names_left 0)
    none_written = record {
      written = ap (written_at old 0) (sym (printed_parts text d));
      ends = zero-add _ ∙ ap length (sym (printed_parts text d));
      long = refl;
    }

    module _ (h : length (printed_names text d) ≤ length old) (new : List ℕ) (at i : ℕ) (s : State new at (names_left i)) where
      parted : i < 3 → Writing new at (part printed_classes i ++ (names_left (i + 1) ++ steps_end)) (written_at old 0 (printed_names text d)) (length (printed_names text d)) (length old)
      parted l =
          subst (λ bytes. Writing new at bytes (written_at old 0 (printed_names text d)) (length (printed_names text d)) (length old))
          (ap (λ t. t ++ steps_end) (class_left i l) ∙ append_assoc (part printed_classes i) (names_left (i + 1)) steps_end) s

      pub class_fits : i < 3 → at + length (part printed_classes i) ≤ length new
      class_fits l = part_fits new at (part printed_classes i) _ _ _ _ h (parted l)

      pub class_written : (more : List ℕ) (next : ℕ) → i < 3 → next ≡ at + length (part printed_classes i) → more ≡ written_at new at (part printed_classes i) → State more next (names_left (i + 1))
      class_written more next l n is = part_written new more at next (part printed_classes i) _ _ _ _ h (parted l) n is

      last : 3 ≤ i → State new at []
      last l = subst (State new at) (no_class_left i l) s

      pub steps_fit : 3 ≤ i → at + length steps_end ≤ length new
      steps_fit l = part_fits new at steps_end [] _ _ _ h (last l)

      pub line_written : (more : List ℕ) (n : ℕ) → 3 ≤ i → n ≡ at + length steps_end → more ≡ written_at new at steps_end → Printed (printed_names text d) n old more
      line_written more n l end is =
          let (whole, place) = all_written more n [] _ _ _ refl (part_written new more at n steps_end [] _ _ _ h (last l) end is) in
          record {
            count = place;
            written = whole ∙ ap (λ k. printed_names text d ++ drop k old) (zero-add _ ∙ sym place);
          }
