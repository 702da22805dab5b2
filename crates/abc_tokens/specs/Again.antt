-- A text that is read as certain tokens, and tokens that some line is read as.
use Rattle.std.specs.Prelude.{◌≡◌, ℕ, List, map, Bool}
use Rattle.abc_pieces.specs.declared.token.Token.{Token}
use Rattle.abc_music.specs.declared.token.Placed.{Placed}
use Rattle.abc_music.specs.Tokens.{TokensOf}

-- `bang` says whether an exclamation mark is a line break
pub record ReadsAs (bang : Bool) (text : List ℕ) (tokens : List Token) : Type 0 where
  pub placed : List Placed
  pub reads : TokensOf bang text placed
  pub same : map (λ p. p.token) placed ≡ tokens

pub record IsReadable (tokens : List Token) : Type 0 where
  pub bang : Bool
  pub line : List ℕ
  pub reads : ReadsAs bang line tokens
