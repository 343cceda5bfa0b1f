-- What it is to read a rule rightly, and that reading on after a part, or under another rule, keeps it. Assumes nothing.
use Rattle.std.proofs.Common.{◌≡◌, ℕ, ◌+◌, ◌≤◌, max, Bool, true, false, ◌⊎◌, List, [], ◌∷◌, ◌++◌, sym, refl, ap, ◌∙◌, subst, inl, inr, append_assoc, append-nil, arith}
use mathlib.Core.List.{append_cancel_left}
use Rattle.words.specs.declared.token.Token.{Token}
use Rattle.grammar.specs.Rules.{Rule}
use Rattle.grammar.specs.Sorts.{sort, second}
use Rattle.grammar.specs.Trees.{Tree, words, depth}
use Rattle.grammar.specs.Promise.{IsOpening}
use Rattle.grammar.specs.Reading.{Out, got, wrong, deep, and_then, map_out}
use Rattle.grammar.proofs.Checks.{continues}

-- the words ts, and behind them words that cannot belong to the rule any more, begin with us and a word of the sort of rest's next
pub record Hit (r : Rule) (ts us rest : List Token) : Type 0 where
  pub after : List Token
  pub on : List Token
  pub free : continues r (sort after) ≡ false
  pub same : ts ++ after ≡ us ++ on
  pub meets : sort on ≡ sort rest

sort_behind : (us vs ws : List Token) → sort vs ≡ sort ws → sort (us ++ vs) ≡ sort (us ++ ws)
sort_behind [] vs ws e = e
sort_behind (u ∷ us) vs ws e = refl

pub hit_sort : {r : Rule} {ts us rest : List Token} (ws : List Token) → ws ≡ us ++ rest → (h : Hit r ts us rest) → sort (ts ++ h.after) ≡ sort ws
hit_sort {us = us} {rest = rest} ws e h = let x = sort_behind us h.on rest h.meets in cc

pub hit_second : {r : Rule} {ts rest : List Token} (w : Token) (us ws : List Token) → ws ≡ w ∷ us ++ rest → (h : Hit r ts (w ∷ us) rest) → second (ts ++ h.after) ≡ second ws
hit_second {rest = rest} w us ws e h = let x = sort_behind us h.on rest h.meets in cc

-- the same words under a rule that fewer words continue
pub hit_under : {r : Rule} {ts us rest : List Token} (a : Rule) → ((after : List Token) → continues r (sort after) ≡ false → continues a (sort after) ≡ false) → Hit r ts us rest → Hit a ts us rest
hit_under a f h = record { after = h.after; on = h.on; free = f h.after h.free; same = h.same; meets = h.meets }

-- the first words of a tree that nests at most n deep, or no word
abbrev pub Viable : ℕ → Rule → List Token → Type 0
Viable n r us = (us ≡ []) ⊎ ((t : Tree r) × (vs : List Token) × (words t ≡ us ++ vs) × (depth t ≤ n))

-- a refusal for nesting holds for the trees that nest at most n deep, any other for all
abbrev pub Within : Bool → ℕ → {r : Rule} → Tree r → Type 0
Within true n t = depth t ≤ n
Within false n t = Unit

-- where nesting is the refusal, the next word opens a nesting, and some tree goes on with it
abbrev pub Goes : Bool → Rule → List Token → List Token → Type 0
Goes false r us rest = Unit
Goes true r us [] = ⊥
Goes true r us (w ∷ rest) = IsOpening w.kind × (t : Tree r) × (vs : List Token) × (words t ≡ us ++ w ∷ [] ++ vs)

-- a refusal at rest, for nesting or not
pub record Fails (nesting : Bool) (n : ℕ) (r : Rule) (ws rest : List Token) : Type 0 where
  pub before : List Token
  pub whole : ws ≡ before ++ rest
  pub right : Viable n r before
  pub stops : (u : Tree r) → Within nesting n u → Hit r (words u) before rest → ⊥
  pub goes : Goes nesting r before rest

-- t is read, and no other tree agrees with the words as far as the next word of rest
pub record Done (n : ℕ) (r : Rule) (ws : List Token) (t : Tree r) (rest : List Token) : Type 0 where
  pub whole : ws ≡ words t ++ rest
  pub within : depth t ≤ n
  pub only : (u : Tree r) → Hit r (words u) (words t) rest → u ≡ t

abbrev pub Reads : ℕ → (r : Rule) → List Token → Out (Tree r) → Type 0
Reads n r ws (got t rest) = Done n r ws t rest
Reads n r ws (wrong rest) = Fails false n r ws rest
Reads n r ws (deep rest) = Fails true n r ws rest

-- trees that nest at most n deep and agree as far as the next word of rest have no more words than us
abbrev pub Only : ℕ → Rule → List Token → List Token → Type 0
Only n a us rest = (u : Tree a) → depth u ≤ n → Hit a (words u) us rest → words u ≡ us

-- an a makes an r, with the words pre before it and tl behind it
module _ {a r : Rule} (n m : ℕ) (pre tl ws ws' : List Token) (lift : Tree a → Tree r) (long : (t : Tree a) → words (lift t) ≡ pre ++ (words t ++ tl)) (down : (t : Tree a) → depth t ≤ n → depth (lift t) ≤ m) (here : Viable m r pre) (whole : ws' ≡ pre ++ ws) where
  longer : (t : Tree a) (us vs : List Token) → words t ≡ us ++ vs → words (lift t) ≡ (pre ++ us) ++ (vs ++ tl)
  longer t us vs e = long t ∙ (ap (λ l. pre ++ (l ++ tl)) e ∙ simp append_assoc)

  viable_via : (us : List Token) → Viable n a us → Viable m r (pre ++ us)
  viable_via us (inl e) = subst (Viable m r) (sym (append-nil pre) ∙ ap (λ l. pre ++ l) (sym e)) here
  viable_via us (inr (t, vs, e, d)) = inr (lift t, vs ++ tl, longer t us vs e, down t d)

  goes_via : (f : Bool) (us rest : List Token) → Goes f a us rest → Goes f r (pre ++ us) rest
  goes_via false us rest g = tt
  goes_via true us [] g = g
  goes_via true us (w ∷ rest) (o, t, vs, e) = (o, lift t, vs ++ tl, longer t (us ++ w ∷ []) vs e ∙ ap (λ l. l ++ (vs ++ tl)) (sym (append_assoc pre us (w ∷ []))))

  fails_via : (f : Bool) (rest : List Token) (x : Fails f n a ws rest) → ((u : Tree r) → Hit r (words u) (pre ++ x.before) rest → (v : Tree a) × (depth u ≤ m → depth v ≤ n) × Hit a (words v) x.before rest) → Fails f m r ws' rest
  fails_via f rest x back = record {
    before = pre ++ x.before;
    whole = whole ∙ (ap (λ l. pre ++ l) x.whole ∙ sym (append_assoc pre x.before rest));
    right = viable_via x.before x.right;
    stops = λ u w h. let (v, d, k) = back u h in x.stops v (grind arith) k;
    goes = goes_via f x.before rest x.goes;
  }

-- an a makes an r, with the words pre before it
module _ {a r : Rule} (n m : ℕ) (pre ws ws' : List Token) (f : Tree a → Tree r) (same : (t : Tree a) → words (f t) ≡ pre ++ words t) (down : (t : Tree a) → depth t ≤ n → depth (f t) ≤ m) (up : (t : Tree a) → depth (f t) ≤ m → depth t ≤ n) (here : Viable m r pre) (whole : ws' ≡ pre ++ ws)
    (back : (us rest : List Token) → ws ≡ us ++ rest → Only n a us rest → (u : Tree r) → Hit r (words u) (pre ++ us) rest → (v : Tree a) × (u ≡ f v) × Hit a (words v) us rest) where
  maps_fails : (g : Bool) (rest : List Token) → Fails g n a ws rest → Fails g m r ws' rest
  maps_fails g rest x =
      fails_via n m pre [] ws ws' f (λ t. same t ∙ ap (λ l. pre ++ l) (sym (append-nil (words t)))) down here whole g rest x
      (λ u h. let (v, e, k) = back x.before rest x.whole (λ v d k. absurd (x.stops v (grind arith) k)) u h in (v, λ d. up v (subst (λ w. depth w ≤ m) e d), k))

  pub maps : (o : Out (Tree a)) → Reads n a ws o → Reads m r ws' (map_out f o)
  maps (got t rest) x = record {
    whole = whole ∙ (ap (λ l. pre ++ l) x.whole ∙ (sym (append_assoc pre (words t) rest) ∙ ap (λ l. l ++ rest) (sym (same t))));
    within = down t x.within;
    only = λ u h.
        let (v, e, k) = back (words t) rest x.whole (λ v d k. ap words (x.only v k)) u (subst (λ l. Hit r (words u) l rest) (same t) h) in
        e ∙ ap f (x.only v k);
  }
  maps (wrong rest) x = maps_fails false rest x
  maps (deep rest) x = maps_fails true rest x

-- a tree that hits is f of an a's
abbrev pub Comes : {a r : Rule} → ℕ → List Token → (Tree a → Tree r) → Type 0
Comes {a} {r} n ws f = (us rest : List Token) → ws ≡ us ++ rest → Only n a us rest → (u : Tree r) → Hit r (words u) us rest → (v : Tree a) × (u ≡ f v)

-- an a makes an r of the same words
pub alike : {a r : Rule} (n m : ℕ) (ws : List Token) (f : Tree a → Tree r) → ((t : Tree a) → words (f t) ≡ words t) → ((t : Tree a) → depth (f t) + n ≡ depth t + m) → ((after : List Token) → continues r (sort after) ≡ false → continues a (sort after) ≡ false) → Comes n ws f → (o : Out (Tree a)) → Reads n a ws o → Reads m r ws (map_out f o)
alike {a} {r} n m ws f same nests free comes =
    maps n m [] ws ws f same
    (λ t d. let x = nests t in omega arith)
    (λ t d. let x = nests t in omega arith)
    (inl refl) refl
    (λ us rest e k u h. let (v, q) = comes us rest e k u h in (v, q, hit_under a free (subst (λ l. Hit r l us rest) (ap words q ∙ same v) h)))

-- an a and a b behind it make an r
module _ {a b r : Rule} (n : ℕ) (ws : List Token) (g : Tree a → Tree b → Tree r) (same : (x : Tree a) (y : Tree b) → words (g x y) ≡ words x ++ words y) (deeper : (x : Tree a) (y : Tree b) → depth (g x y) ≡ max (depth x) (depth y)) (z : Tree b) (flat : depth z ≡ 0)
    (behind : (y : Tree b) (after : List Token) → continues r (sort after) ≡ false → (continues a (sort (words y ++ after)) ≡ false) × (continues b (sort after) ≡ false))
    (split : (us rest : List Token) → ws ≡ us ++ rest → (u : Tree r) → Hit r (words u) us rest → (x : Tree a) × (y : Tree b) × (u ≡ g x y)) where
  joint : {us rest : List Token} (u : Tree r) (x : Tree a) (y : Tree b) → u ≡ g x y → (h : Hit r (words u) us rest) → words x ++ (words y ++ h.after) ≡ us ++ h.on
  joint u x y e h = sym (append_assoc (words x) (words y) h.after) ∙ (ap (λ l. l ++ h.after) (sym (ap words e ∙ same x y)) ∙ h.same)

  seqs_fails : (f : Bool) (rest : List Token) → Fails f n a ws rest → Fails f n r ws rest
  seqs_fails f rest x =
      fails_via n n [] (words z) ws ws (λ v. g v z) (λ v. same v z) (λ v d. let e = deeper v z in omega arith) (inl refl) refl f rest x
      (λ u h.
      let (v, y, e) = split x.before rest x.whole u h in
      let k : Hit a (words v) x.before rest = record { after = words y ++ h.after; on = h.on; free = (behind y h.after h.free).0; same = joint u v y e h; meets = h.meets } in
      (v, λ d. let j = deeper v y in let l = subst (λ w. depth w ≤ n) e d in omega arith, k))

  -- behind t, which is read
  module _ (t : Tree a) (left : List Token) (d : Done n a ws t left) where
    seqs_back : (us rest : List Token) → left ≡ us ++ rest → (u : Tree r) → Hit r (words u) (words t ++ us) rest → (y : Tree b) × (u ≡ g t y) × Hit b (words y) us rest
    seqs_back us rest e u h =
        let (x, y, k) = split (words t ++ us) rest (d.whole ∙ (ap (λ l. words t ++ l) e ∙ sym (append_assoc (words t) us rest))) u h in
        let j = joint u x y k h ∙ append_assoc (words t) us h.on in
        let q = d.only x (record { after = words y ++ h.after; on = us ++ h.on; free = (behind y h.after h.free).0; same = j; meets = sort_behind us h.on rest h.meets ∙ ap sort (sym e) }) in
        let m = append_cancel_left (words t) (words y ++ h.after) (us ++ h.on) (ap (λ v. words v ++ (words y ++ h.after)) (sym q) ∙ j) in
        (y, k ∙ ap (λ v. g v y) q, record { after = h.after; on = h.on; free = (behind y h.after h.free).1; same = m; meets = h.meets })

    seqs_got : (o : Out (Tree b)) → Reads n b left o → Reads n r ws (map_out (g t) o)
    seqs_got =
        maps n n (words t) left ws (g t) (same t)
        (λ y e. let k = deeper t y in let l = d.within in omega arith)
        (λ y e. let k = deeper t y in omega arith)
        (inr (g t z, words z, same t z, let k = deeper t z in let l = d.within in omega arith))
        d.whole
        (λ us rest e _ u h. seqs_back us rest e u h)

  pub seqs : (k : Tree a → List Token → Out (Tree b)) (o : Out (Tree a)) → Reads n a ws o → ((t : Tree a) (rest : List Token) → ws ≡ words t ++ rest → Reads n b rest (k t rest)) → Reads n r ws (and_then o (λ t us. map_out (g t) (k t us)))
  seqs k (got t rest) x f = seqs_got t rest x (k t rest) (f t rest x.whole)
  seqs k (wrong rest) x f = seqs_fails false rest x
  seqs k (deep rest) x f = seqs_fails true rest x
