-- What the reader of tokens returns.
use Rattle.std.specs.Prelude.{ℕ, List}
use Rattle.ps_tokens.specs.declared.front.TokenStart.{TokenStart as Given}
use Rattle.ps_tokens.specs.declared.body.BodyRead.{BodyRead}
use Rattle.ps_tokens.specs.declared.body.TokenRead.{TokenRead}
use Rattle.ps_tokens.specs.declared.front.TokenStart.TheVariants as given
use Rattle.ps_steps.specs.Tokens.{Read, found, opening, closing, unread, Body, NoBody, TokenAt, NoToken}

abbrev pub read_of : Given → Read
read_of (given.Found t rest) = found t rest.now
read_of (given.Opening rest) = opening rest.now
read_of (given.Closing rest) = closing rest.now
read_of (given.Unread cause) = unread cause

abbrev pub IsBodyRead : List ℕ → BodyRead → Type 0
IsBodyRead s (BodyRead.Whole ts rest) = Body s ts rest.now
IsBodyRead s (BodyRead.Not cause) = NoBody s cause

abbrev pub IsTokenRead : List ℕ → TokenRead → Type 0
IsTokenRead s (TokenRead.Found t rest) = TokenAt s t rest.now
IsTokenRead s (TokenRead.Not cause) = NoToken s cause
