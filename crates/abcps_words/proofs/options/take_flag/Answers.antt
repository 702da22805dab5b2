use Rattle.std.proofs.Common.{◌≡◌, ◌∷◌, codes, string_bytes, map, sym, ◌∙◌, ap}
use Rattle.abcps_words.proofs.Prefixes.{no_half_steps, no_jobs}
use Rattle.abcps_words.proofs.options.take_flag.Goals as goal

pub returns-in_err-jobs : goal.returns-in_err-jobs
returns-in_err-jobs c = rw c.from_residual-in_err-jobs.ensures (λ f rest good e.
    let is : string_bytes c.in_ok-word.word.now ≡ codes "--jobs" =
    sym c.as_bytes-else-is_word-3.ensures.value ∙ c.is_word-else-is_word-3.ensures.0 c.if-is_word-4.true in
    let whole : map string_bytes c.args.words.now ≡ string_bytes c.in_ok-word.word.now ∷ map string_bytes
    c.in_ok-word.rest.now = ap (map string_bytes) c.in_ok-word.ensures.cases.0 in
    no_jobs (string_bytes c.in_ok-word.word.now) (map string_bytes c.in_ok-word.rest.now) is c.in_err-jobs.ensures f
    rest good (sym whole ∙ e))

pub returns-in_err-by : goal.returns-in_err-by
returns-in_err-by c = rw c.from_residual-in_err-by.ensures (λ f rest good e.
    let is : string_bytes c.in_ok-word.word.now ≡ codes "--transpose" =
    sym c.as_bytes-else-is_word-4.ensures.value ∙ c.is_word-else-is_word-4.ensures.0 c.if-is_word-5.true in
    let whole : map string_bytes c.args.words.now ≡ string_bytes c.in_ok-word.word.now ∷ map string_bytes
    c.in_ok-word.rest.now = ap (map string_bytes) c.in_ok-word.ensures.cases.0 in
    no_half_steps (string_bytes c.in_ok-word.word.now) (map string_bytes c.in_ok-word.rest.now) is c.in_err-by.ensures f
    rest good (sym whole ∙ e))
