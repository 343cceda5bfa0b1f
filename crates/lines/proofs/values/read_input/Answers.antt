use Rattle.std.proofs.Common.{◌≡◌, ℕ, ◌+◌, ◌-◌, ◌≤◌, List, ◌++◌, length, take, drop, sym, ap, ◌∙◌, subst, arith}
use Rattle.std.proofs.lemmas.List.{length-drop, length-take-le}
use Rattle.control.specs.Databases.{rows_of}
use Rattle.control.specs.Points.{base, width_of}
use Rattle.control.specs.Letters.{Letters}
use Rattle.lines.specs.Cursors.{Has, characters, space_before, from_list, KeptOutside}
use Rattle.lines.specs.Lines.{symbol_word}
use Rattle.lines.proofs.ValueParts.{symbol_written, letters_of, word_of, length_letters}
use Rattle.lines.proofs.ValueReads.{has_more, some_read, none_read, written, others_kept, behind_word}
use Rattle.lines.proofs.values.read_input.Goals as goal

pub returns-clause-read : goal.returns-clause-read
returns-clause-read c =
    let d = rows_of c.args.design.now.rows in
    let y = c.args.symbol in
    let line = c.args.line.now in
    let old = c.args.letters.now in
    let start = c.points_of.result.start in
    let n = c.points_of.result.end - start in
    let word = c.read_letters.new.letters in
    let news = written old word start n in
    let known = c.told-letters in
    let fits : start + n ≤ length old = omega arith in
    let long : length word ≡ n = omega (arith, length-drop start old, length-take-le n (drop start old) (omega (arith, length-drop start old))) in
    let same = symbol_written d old word y start n c.points_of.ensures.start (omega arith) fits long in
    some_read c.read_letters.result
    (λ end. Has (characters word) line c.in_ok-start.start end)
    (λ end. Has (space_before c.args.at ++ symbol_word d (from_list news) y) line c.args.at end)
    (λ end h. subst (λ t. Has (space_before c.args.at ++ t) line c.args.at end) (sym same)
    (has_more (space_before c.args.at) (characters word) line c.args.at c.in_ok-start.start end c.in_ok-start.ensures.read h))
    c.read_letters.ensures.read

pub returns-clause-kept : goal.returns-clause-kept
returns-clause-kept c =
    let d = rows_of c.args.design.now.rows in
    let y = c.args.symbol in
    let old = c.args.letters.now in
    let start = c.points_of.result.start in
    let n = c.points_of.result.end - start in
    let word = c.read_letters.new.letters in
    let known = c.told-letters in
    let fits : start + n ≤ length old = omega arith in
    let long : length word ≡ n = omega (arith, length-drop start old, length-take-le n (drop start old) (omega (arith, length-drop start old))) in
    subst (λ end. KeptOutside old (written old word start n) (base d y) end) (let e : base d y + n ≡ base d y + width_of d y = omega arith in e)
    (subst (λ first. KeptOutside old (written old word start n) first (first + n)) c.points_of.ensures.start
    (others_kept old word start n fits long))

pub returns-clause-wrong : goal.returns-clause-wrong
returns-clause-wrong c =
    let d = rows_of c.args.design.now.rows in
    let y = c.args.symbol in
    let line = c.args.line.now in
    let old = c.args.letters.now in
    let start = c.points_of.result.start in
    let n = c.points_of.result.end - start in
    let known = c.told-letters in
    let long : length (take n (drop start old)) ≡ width_of d y = omega (arith, length-drop start old, length-take-le n (drop start old) (omega (arith, length-drop start old))) in
    none_read c.read_letters.result _ ((x : Letters) (rest : List ℕ) → ¬ (drop c.args.at line ≡ space_before c.args.at ++ (symbol_word d x y ++ rest)))
    (λ wrong x rest stands.
    wrong (letters_of d x y) rest (length_letters d x y ∙ sym long)
    (behind_word (space_before c.args.at) (symbol_word d x y ++ rest) line c.args.at c.in_ok-start.start c.in_ok-start.ensures.read stands
    ∙ ap (λ t. t ++ rest) (word_of d x y)))
    c.read_letters.ensures.wrong
