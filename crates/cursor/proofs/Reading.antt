-- What a rule comes to, by its parts. Assumes nothing.
use Rattle.std.proofs.Common.{◌≡◌, ℕ, List, cond, refl}
use Rattle.words.specs.declared.token.Sign.{Sign}
use Rattle.words.specs.declared.token.Keyword.{Keyword}
use Rattle.words.specs.declared.token.Token.{Token}
use Rattle.grammar.specs.Rules.{Rule, mark, keyword, name, integer, ◌then◌, maybe, either, fork}
use Rattle.grammar.specs.Sorts.{sort, starts}
use Rattle.grammar.specs.Trees.{both, some, none, left, right, one, other}
use Rattle.grammar.specs.Reading.{got, map_out, and_then, read_word, plain, read_with, read}
use Rattle.cursor.proofs.Steps.{word_is}

module _ (n : ℕ) where
  pub read_mark : (s : Sign) (ws : List Token) → read n (mark s) ws ≡ read_word (mark s) ws
  read_mark s ws = word_is n (mark s) tt ws

  pub read_keyword : (k : Keyword) (ws : List Token) → read n (keyword k) ws ≡ read_word (keyword k) ws
  read_keyword k ws = word_is n (keyword k) tt ws

  pub read_name : (ws : List Token) → read n name ws ≡ read_word name ws
  read_name ws = word_is n name tt ws

  pub read_integer : (ws : List Token) → read n integer ws ≡ read_word integer ws
  read_integer ws = word_is n integer tt ws

  pub read_then : (a b : Rule) (ws : List Token) → read n (a then b) ws ≡ and_then (read n a ws) (λ t us. map_out (both t) (read n b us))
  unfolding read read_with
  read_then a b ws = refl

  pub read_maybe : (a : Rule) (ws : List Token) → read n (maybe a) ws ≡ cond (starts a (sort ws)) (map_out some (read n a ws)) (got none ws)
  unfolding read read_with
  read_maybe a ws = refl

  pub read_either : (a b : Rule) (ws : List Token) → read n (either a b) ws ≡ cond (starts a (sort ws)) (map_out left (read n a ws)) (map_out right (read n b ws))
  unfolding read read_with
  read_either a b ws = refl

  pub read_fork : (a b : Rule) (ws : List Token) → read n (fork a b) ws ≡ cond (plain ws) (map_out one (read n a ws)) (map_out other (read n b ws))
  unfolding read read_with
  read_fork a b ws = refl

-- single words, a chain, and the choices that the next word decides
pub ruleset reading = (read_mark, read_keyword, read_name, read_integer, read_then, read_maybe, read_either, read_fork)
