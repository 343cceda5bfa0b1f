-- Bytes with both cases alike. Assumes nothing.
use Rattle.std.proofs.Common.{◌≡◌, ℕ, List, [], ◌∷◌, ◌++◌, map, length, take, ap, sym, refl, ◌∙◌, arith}
use Rattle.std.specs.Char.{to_ascii_lowercase}
use Rattle.std.proofs.lemmas.Bool.Decides.{nat_tests}
use Rattle.std.proofs.lemmas.List.{map-append, length-map, take_at}
use Rattle.lines.specs.Lines.{upper}
use Rattle.lines.specs.NameLines.{GoesOn}

lowered : (a b : ℕ) → upper a ≡ upper b → to_ascii_lowercase a ≡ to_ascii_lowercase b
lowered a b e = grind (arith, nat_tests)

raised : (a b : ℕ) → to_ascii_lowercase a ≡ to_ascii_lowercase b → upper a ≡ upper b
raised a b e = grind (arith, nat_tests)

lowered_all : (xs ys : List ℕ) → map upper xs ≡ map upper ys → map to_ascii_lowercase xs ≡ map to_ascii_lowercase ys
lowered_all [] [] e = refl
lowered_all [] (y ∷ ys) e = cc
lowered_all (x ∷ xs) [] e = cc
lowered_all (x ∷ xs) (y ∷ ys) e =
    let first : upper x ≡ upper y = cc in
    let rest : map upper xs ≡ map upper ys = cc in
    λ i. lowered x y first i ∷ lowered_all xs ys rest i

raised_all : (xs ys : List ℕ) → map to_ascii_lowercase xs ≡ map to_ascii_lowercase ys → map upper xs ≡ map upper ys
raised_all [] [] e = refl
raised_all [] (y ∷ ys) e = cc
raised_all (x ∷ xs) [] e = cc
raised_all (x ∷ xs) (y ∷ ys) e =
    let first : to_ascii_lowercase x ≡ to_ascii_lowercase y = cc in
    let rest : map to_ascii_lowercase xs ≡ map to_ascii_lowercase ys = cc in
    λ i. raised x y first i ∷ raised_all xs ys rest i

-- a line that is split behind as many bytes as a word has begins with the word
pub begins : (line front rest word : List ℕ) → line ≡ front ++ rest → map to_ascii_lowercase front ≡ map to_ascii_lowercase word → GoesOn line word (map upper rest)
begins line front rest word split same = ap (map upper) split ∙ map-append upper front rest ∙ ap (λ t. t ++ map upper rest) (raised_all front word same)

-- or with no such word
pub begins_not : (line front rest word : List ℕ) → line ≡ front ++ rest → length front ≡ length word → (map to_ascii_lowercase front ≡ map to_ascii_lowercase word → ⊥) → (more : List ℕ) → GoesOn line word more → ⊥
begins_not line front rest word split long differ more is =
    let n = length word in
    let joined : map upper front ++ map upper rest ≡ map upper word ++ more = sym (map-append upper front rest) ∙ ap (map upper) (sym split) ∙ is in
    let same : map upper front ≡ map upper word =
    sym (take_at (map upper front) (map upper rest) n (length-map front upper ∙ long)) ∙ ap (take n) joined ∙ take_at (map upper word) more n (length-map word upper) in
    differ (lowered_all front word same)
