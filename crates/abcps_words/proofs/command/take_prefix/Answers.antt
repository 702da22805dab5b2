use Rattle.std.proofs.Common.{◌≡◌, ◌∷◌, string_bytes, map, sym, ◌∙◌, ap}
use Rattle.abcps_words.specs.declared.command.Name.{Name}
use Rattle.abcps_words.specs.Words.{name_bytes}
use Rattle.abcps_words.proofs.Prefixes.{unnamed, no_make, no_trial, no_hear}
use Rattle.abcps_words.proofs.command.take_prefix.Goals as goal

pub returns-in_err-name_of : goal.returns-in_err-name_of
returns-in_err-name_of c = rw c.from_residual-in_err-name_of.ensures (λ d rest good e.
    let whole : map string_bytes c.args.words.now ≡ string_bytes c.in_ok-word.word.now ∷ map string_bytes
    c.in_ok-word.rest.now = ap (map string_bytes) c.in_ok-word.ensures.cases.0 in
    unnamed (string_bytes c.in_ok-word.word.now) (map string_bytes c.in_ok-word.rest.now)
    (λ n is. c.in_err-name_of.ensures n (c.as_bytes.ensures.value ∙ is)) d rest (sym whole ∙ e))

pub returns-in_err-tunes-in-Make : goal.returns-in_err-tunes-in-Make
returns-in_err-tunes-in-Make c = rw c.from_residual-in_err-tunes-in-Make.ensures (λ d rest good e.
    let is : string_bytes c.in_ok-word.word.now ≡ name_bytes Name.Make =
    sym c.as_bytes.ensures.value ∙ c.in_ok-name_of.ensures ∙ ap name_bytes c.in-Make.is in
    let whole : map string_bytes c.args.words.now ≡ string_bytes c.in_ok-word.word.now ∷ map string_bytes
    c.in_ok-word.rest.now = ap (map string_bytes) c.in_ok-word.ensures.cases.0 in
    no_make (string_bytes c.in_ok-word.word.now) (map string_bytes c.in_ok-word.rest.now) is
    c.in_err-tunes-in-Make.ensures d rest good (sym whole ∙ e))

pub returns-in_err-tunes-in-Trial : goal.returns-in_err-tunes-in-Trial
returns-in_err-tunes-in-Trial c = rw c.from_residual-in_err-tunes-in-Trial.ensures (λ d rest good e.
    let is : string_bytes c.in_ok-word.word.now ≡ name_bytes Name.Trial =
    sym c.as_bytes.ensures.value ∙ c.in_ok-name_of.ensures ∙ ap name_bytes c.in-Trial.is in
    let whole : map string_bytes c.args.words.now ≡ string_bytes c.in_ok-word.word.now ∷ map string_bytes
    c.in_ok-word.rest.now = ap (map string_bytes) c.in_ok-word.ensures.cases.0 in
    no_trial (string_bytes c.in_ok-word.word.now) (map string_bytes c.in_ok-word.rest.now) is
    c.in_err-tunes-in-Trial.ensures d rest good (sym whole ∙ e))

pub returns-in_err-spread-in-Hear : goal.returns-in_err-spread-in-Hear
returns-in_err-spread-in-Hear c = rw c.from_residual-in_err-spread-in-Hear.ensures (λ d rest good e.
    let is : string_bytes c.in_ok-word.word.now ≡ name_bytes Name.Hear =
    sym c.as_bytes.ensures.value ∙ c.in_ok-name_of.ensures ∙ ap name_bytes c.in-Hear.is in
    let whole : map string_bytes c.args.words.now ≡ string_bytes c.in_ok-word.word.now ∷ map string_bytes
    c.in_ok-word.rest.now = ap (map string_bytes) c.in_ok-word.ensures.cases.0 in
    no_hear (string_bytes c.in_ok-word.word.now) (map string_bytes c.in_ok-word.rest.now) is
    c.in_err-spread-in-Hear.ensures d rest (sym whole ∙ e))
