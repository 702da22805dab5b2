-- Words ask for at most one command, and its numbers are in range.
use Rattle.abcps_words.specs.Limits.{job_limit, tune_limit}
use Rattle.std.proofs.Common.{◌≡◌, ℕ, pos, if◌then◌else◌, ◌==◌, List, ◌++◌, Option, Some, None, MatchOption, IfSome}
use Rattle.std.proofs.Common.{IfNone, unwrap_or, refl, sym, ◌∙◌, ap, subst, arith, decimal}
use Rattle.std.proofs.lemmas.Fmt.{decimal_is_IsNumeral}
use Rattle.std.specs.Str.Parse.{digits_value}
use Rattle.mus_units.specs.declared.key.Spread.{Spread}
use Rattle.abcps_words.specs.declared.options.Flag.{Flag}
use Rattle.abcps_words.specs.declared.options.Options.{Options}
use Rattle.abcps_words.specs.declared.command.Command.{Command}
use Rattle.abcps_words.specs.Words.{IsUpTo, IsMove, prefix_of, HasTunes, IsSpelled, said, SaysCommand}
use Rattle.abcps_words.specs.Command.{Asks, IsListed, AsksOne, AskedIsGood, IsGoodCommand}
use Rattle.abcps_words.proofs.Prefixes.{head_of, tail_of, key_of, same_prefix}
use Rattle.abcps_words.proofs.Flags.{one_spelling, half_steps_good, jobs_good}

-- the spread that a word is
abbrev spread_back : List ℕ → Spread
spread_back word =
    let key = key_of word in
    if key == 337 then Spread.Not else
    if key == 423 then Spread.Octave else Spread.Pitch

-- the command with these leading words and these options
abbrev rebuilt : List (List ℕ) → Options → Command
rebuilt prefix o =
    let key = key_of (head_of prefix) in let tunes = digits_value 10 (head_of (tail_of prefix)) in
    if key == 332 then Command.Set o.flow (unwrap_or o.jobs 1) (unwrap_or o.by (pos 0)) o.even else
    if key == 467 then Command.Systems o.flow o.table (unwrap_or o.by (pos 0)) else
    if key == 442 then Command.Inspect else
    if key == 403 then Command.Check else
    if key == 424 then Command.Paint else
    if key == 416 then Command.Hear (spread_back (head_of (tail_of prefix))) else
    if key == 414 then Command.Make tunes else Command.Trial tunes o.flow (unwrap_or o.jobs 1) o.even

number_back : (n : ℕ) → IsUpTo tune_limit n → digits_value 10 (decimal n) ≡ n
number_back n within = (decimal_is_IsNumeral n (omega (arith, within))).1

is_rebuilt : (c : Command) (o : Options) → HasTunes c → SaysCommand o c → rebuilt (prefix_of c) o ≡ c
is_rebuilt (Command.Set flow jobs by even) o good says = cc (says.0, says.1, says.2, says.3)
is_rebuilt (Command.Systems flow table by) o good says = cc (says.0, says.1, says.2)
is_rebuilt Command.Inspect o good says = refl
is_rebuilt Command.Check o good says = refl
is_rebuilt Command.Paint o good says = refl
is_rebuilt (Command.Hear Spread.Not) o good says = refl
is_rebuilt (Command.Hear spread) o good says = refl
is_rebuilt (Command.Make tunes) o good says = ap Command.Make (number_back tunes good)
is_rebuilt (Command.Trial tunes flow jobs even) o good says = cc (number_back tunes good, says.0, says.1, says.2)

pub one_prefix : (c d : Command) (o : Options)
    → prefix_of c ≡ prefix_of d → HasTunes c → HasTunes d → SaysCommand o c → SaysCommand o d → c ≡ d
one_prefix c d o e a b says tells =
    sym (is_rebuilt c o a says) ∙ ap (λ prefix. rebuilt prefix o) e ∙ is_rebuilt d o b tells

pub asks_one : AsksOne
asks_one words c d a b =
    let prefixes = same_prefix c d a.following b.following (sym a.whole ∙ b.whole) in
    let same : a.options ≡ b.options =
    one_spelling a.options b.options a.following a.spelled (subst (IsSpelled b.options) (sym prefixes.1) b.spelled) in
    one_prefix c d (said a.options) prefixes.0 a.tunes b.tunes a.says
    (subst (λ flags. SaysCommand (said flags) d) (sym same) b.says)

good_by : (c : Command) (flags : List Flag) (options : List (List ℕ))
    → HasTunes c → IsSpelled flags options → SaysCommand (said flags) c → IsGoodCommand c
good_by (Command.Set flow jobs by even) flags options good is says = (
  subst (IsUpTo job_limit) (sym says.1) (jobs_good flags is.in_range),
  subst IsMove (sym says.2) (half_steps_good flags is.in_range),
)
good_by (Command.Systems flow table by) flags options good is says =
    subst IsMove (sym says.2) (half_steps_good flags is.in_range)
good_by (Command.Make tunes) flags options good is says = good
good_by (Command.Trial tunes flow jobs even) flags options good is says =
    (good, subst (IsUpTo job_limit) (sym says.1) (jobs_good flags is.in_range))
good_by c flags options good is says = tt

pub asked_is_good : AskedIsGood
asked_is_good words c asks = good_by c asks.options asks.following asks.tunes asks.spelled asks.says

-- what a command's leading words and its options, read from the same words, make of them
module _ (words rest : List (List ℕ)) (c : Command) (o : Options) (flags : List Flag)
    (whole : words ≡ prefix_of c ++ rest) (is : IsSpelled flags rest) (says : o ≡ said flags) where
  asked : (d : Command) → prefix_of d ≡ prefix_of c → HasTunes d → SaysCommand o d → Asks words d
  asked d e good tells = record {
    options = flags;
    following = rest;
    whole = whole ∙ ap (λ prefix. prefix ++ rest) (sym e);
    tunes = good;
    spelled = is;
    says = subst (λ o. SaysCommand o d) says tells;
  }

  pub asks_by : (r : Option Command)
      → MatchOption r ((d : Command) → prefix_of d ≡ prefix_of c → SaysCommand o d → ⊥)
      (λ d. (prefix_of d ≡ prefix_of c) × HasTunes d × SaysCommand o d)
      → IfSome r (λ d. Asks words d)
  asks_by None h = tt
  asks_by (Some d) h = asked d h.0 h.1 h.2

  pub none_by : (r : Option Command)
      → MatchOption r ((d : Command) → prefix_of d ≡ prefix_of c → SaysCommand o d → ⊥)
      (λ d. (prefix_of d ≡ prefix_of c) × HasTunes d × SaysCommand o d)
      → IfNone r (IsListed words → ⊥)
  none_by None h = λ listed. (
      let a = listed.1 in
      let prefixes = same_prefix listed.0 c a.following rest (sym a.whole ∙ whole) in
      let same : a.options ≡ flags =
      one_spelling a.options flags rest (subst (IsSpelled a.options) prefixes.1 a.spelled) is in
      h listed.0 prefixes.0 (subst (λ o. SaysCommand o listed.0) (ap said same ∙ sym says) a.says))
  none_by (Some d) h = tt

pub good_of : (words : List (List ℕ)) (r : Option Command) → IfSome r (λ d. Asks words d) → IfSome r IsGoodCommand
good_of words None h = tt
good_of words (Some d) h = asked_is_good words d h
