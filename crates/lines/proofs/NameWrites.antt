-- Bytes written into an output one part behind the other. Assumes nothing.
use Rattle.std.proofs.Common.{◌≡◌, ℕ, ◌+◌, ◌≤◌, List, [], ◌++◌, length, take, drop, ap, sym, ◌∙◌, add-zero, arith}
use Rattle.std.proofs.lemmas.List.{append_assoc, length-append, length-take-le, length-drop, take_at, drop_at, drop-drop, take-append-drop}
use Rattle.lines.specs.NameLines.{written_at}

-- nothing is written
nothing_written : (old : List ℕ) (at : ℕ) → written_at old at [] ≡ old
nothing_written old at = ap (λ n. take at old ++ drop n old) (add-zero at) ∙ take-append-drop at old

-- an output keeps its length
length_written : (old : List ℕ) (at : ℕ) (bytes : List ℕ) → at + length bytes ≤ length old → length (written_at old at bytes) ≡ length old
length_written old at bytes h =
    omega (arith, length-append (take at old) (bytes ++ drop (at + length bytes) old), length-append bytes (drop (at + length bytes) old), length-take-le at old (omega arith), length-drop (at + length bytes) old)

-- one part behind the other
written_behind : (old : List ℕ) (at end : ℕ) (one two : List ℕ) → at + length one ≤ length old → end ≡ at + length one → written_at (written_at old at one) end two ≡ written_at old at (one ++ two)
written_behind old at end one two h e =
    let front = take at old in
    let rest = drop (at + length one) old in
    let whole : written_at old at one ≡ (front ++ one) ++ rest = sym (append_assoc front one rest) in
    let place : length (front ++ one) ≡ end = omega (arith, length-append front one, length-take-le at old (omega arith)) in
    let before : take end (written_at old at one) ≡ front ++ one = ap (take end) whole ∙ take_at (front ++ one) rest end place in
    let behind : drop end (written_at old at one) ≡ rest = ap (drop end) whole ∙ drop_at (front ++ one) rest end place in
    let further : at + length one + length two ≡ at + length (one ++ two) = omega (arith, length-append one two) in
    let last : drop (end + length two) (written_at old at one) ≡ drop (at + length (one ++ two)) old =
    sym (drop-drop (length two) end (written_at old at one)) ∙ ap (drop (length two)) behind ∙ drop-drop (length two) (at + length one) old ∙ ap (λ n. drop n old) further in
    (λ i. before i ++ (two ++ last i)) ∙ append_assoc front one (two ++ drop (at + length (one ++ two)) old)
    ∙ ap (λ t. front ++ t) (sym (append_assoc one two (drop (at + length (one ++ two)) old)))

-- Bytes are still to be written at a place: then this output is done, at this end.
pub record Writing (out : List ℕ) (at : ℕ) (bytes done : List ℕ) (end room : ℕ) : Type 0 where
  pub written : written_at out at bytes ≡ done
  pub ends : at + length bytes ≡ end
  pub long : length out ≡ room

-- nothing is left to be written
pub all_written : (out : List ℕ) (at : ℕ) (bytes done : List ℕ) (end room : ℕ) → bytes ≡ [] → Writing out at bytes done end room → (out ≡ done) × (at ≡ end)
all_written out at bytes done end room none w =
    (sym (nothing_written out at) ∙ ap (written_at out at) (sym none) ∙ w.written, omega (arith, ap length none, w.ends))

-- a part is written, and behind it the others
pub part_written : (out one : List ℕ) (at next : ℕ) (part more done : List ℕ) (end room : ℕ) → end ≤ room → Writing out at (part ++ more) done end room → next ≡ at + length part → one ≡ written_at out at part → Writing one next more done end room
part_written out one at next part more done end room h w n is =
    let sizes = length-append part more in
    let fits : at + length part ≤ length out = omega (arith, w.ends, w.long, sizes) in
    record {
      written = ap (λ t. written_at t next more) is ∙ written_behind out at next part more fits n ∙ w.written;
      ends = omega (arith, w.ends, sizes);
      long = ap length is ∙ length_written out at part fits ∙ w.long;
    }

-- there is room for a part
pub part_fits : (out : List ℕ) (at : ℕ) (part more done : List ℕ) (end room : ℕ) → end ≤ room → Writing out at (part ++ more) done end room → at + length part ≤ length out
part_fits out at part more done end room h w = omega (arith, w.ends, w.long, length-append part more)
