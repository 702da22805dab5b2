use Rattle.std.proofs.Common.{◌≡◌, ◌<◌, ◌==◌, ℕ, zero, suc, Bool, false, length, string_bytes, map, sym, ◌∙◌, arith}
use Rattle.std.proofs.lemmas.Bool.{true≢false}
use Rattle.std.proofs.lemmas.List.{length-map}
use Rattle.abcps_words.proofs.Flags.{unreadable, repeated, one_more}
use Rattle.abcps_words.proofs.options.options_of.Goals as goal

by_empty : (n : ℕ) (b : Bool) → b ≡ (n == 0) → b ≡ false → 0 < n
by_empty zero b tells not = absurd (true≢false (sym tells ∙ not))
by_empty (suc n) b tells not = omega arith

pub returns-in_err-flag : goal.returns-in_err-flag
returns-in_err-flag c = rw c.from_residual.ensures (λ flags is.
    let some : 0 < length (map string_bytes c.loop-rest.rest.now) =
    rw length-map (by_empty (length c.loop-rest.rest.now) c.is_empty.result c.is_empty.ensures c.loop-rest-test.true) in
    unreadable (map string_bytes c.args.words.now) (map string_bytes c.loop-rest.rest.now) c.loop-rest.options
    c.loop-rest.invariant some c.in_err-flag.ensures flags is)

pub returns-in_err-options : goal.returns-in_err-options
returns-in_err-options c = rw c.from_residual-in_err-options.ensures (λ flags is.
    let took = c.in_ok-flag.ensures in
    repeated (map string_bytes c.args.words.now) (map string_bytes c.loop-rest.rest.now)
    (map string_bytes c.in_ok-flag.following.now) c.loop-rest.options c.in_ok-flag.flag c.loop-rest.invariant
    took.0 took.1 (sym c.with.ensures ∙ c.in_err-options.was) flags is)

pub loop-rest-preserved : goal.loop-rest-preserved
loop-rest-preserved c =
    let took = c.in_ok-flag.ensures in
    one_more _ (map string_bytes c.loop-rest.rest.now) (map string_bytes c.in_ok-flag.following.now) c.loop-rest.options
    c.in_ok-options.options c.in_ok-flag.flag c.loop-rest.invariant
    took.0 took.1 (sym c.with.ensures ∙ c.in_ok-options.was)
