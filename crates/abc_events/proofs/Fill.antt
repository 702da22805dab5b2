-- The events that the open tuplets take.
use Rattle.std.proofs.Common.{◌≡◌, refl, sym, ap, ◌∙◌, ℕ, zero, suc, ◌-◌, ◌≤◌, List, [], ◌∷◌, ◌++◌, arith, append-nil}
use Rattle.std.proofs.Common.{append_assoc, subst}
use Rattle.mus_score.specs.declared.score.Music.{Music}
use Rattle.abc_events.specs.declared.nesting.OpenTuplet.{OpenTuplet}
use Rattle.abc_events.specs.Nesting.{Forest, none_more, one, group, cut, music_of, Filled, filled, finish}
use Rattle.abc_events.specs.Nesting.{filled_tuplets, fill_one, whole, TakesAnother, Puts}
use Rattle.mus_score.specs.declared.score.Music.TheVariants as music

pub fill_last : (os : List OpenTuplet) (o : OpenTuplet) (z : Filled)
    → filled_tuplets (os ++ o ∷ []) z ≡ filled_tuplets os (fill_one o z)
fill_last [] o z = refl
fill_last (x ∷ os) o z = ap (fill_one x) (fill_last os o z)

pub ready_last : (os : List OpenTuplet) (o : OpenTuplet) → 1 ≤ o.left → TakesAnother (os ++ o ∷ [])
ready_last [] o h = h
ready_last (x ∷ []) o h = h
ready_last (x ∷ y ∷ os) o h = ready_last (y ∷ os) o h

pub last_ready : (os : List OpenTuplet) (o : OpenTuplet) → TakesAnother (os ++ o ∷ []) → 1 ≤ o.left
last_ready [] o h = h
last_ready (x ∷ []) o h = h
last_ready (x ∷ y ∷ os) o h = last_ready (y ∷ os) o h

abbrev pub leaving : ℕ → OpenTuplet → OpenTuplet
leaving n o = record o { left = n }

abbrev tuplet_of : OpenTuplet → List Music → Forest → Filled
tuplet_of o nodes f = record { nodes = o.before ++ music.Tuplet o.p o.q nodes ∷ []; forest = f }

-- an event goes to the innermost tuplet
pub event_one : (o : OpenTuplet) (n : ℕ) (body : List Music) (w : List Music) (f : Forest)
    → fill_one (leaving n o) (filled (body ++ w) f) ≡ fill_one (leaving (suc n) o) (filled body (one w f))
event_one o n body w f =
    ap (λ nodes. tuplet_of o nodes (cut n f).left) (append_assoc body (w) (music_of (cut n f).taken))

-- a tuplet with all its events goes to the one around it
pub group_one : (o : OpenTuplet) (n p q r : ℕ) (body : List Music) (f : Forest)
    → fill_one (leaving (suc n - r) o) (fill_one (record { p = p; q = q; left = r; before = body }) (filled [] f))
    ≡ fill_one (leaving (suc n) o) (filled body (group p q r (cut r f).taken (cut r f).left))
group_one o n p q r body f =
    ap (λ nodes. tuplet_of o nodes (cut (suc n - r) (cut r f).left).left)
    (append_assoc body (music.Tuplet p q (music_of (cut r f).taken) ∷ [])
    (music_of (cut (suc n - r) (cut r f).left).taken))

-- a tuplet that takes no more closes
pub close_one : (o : OpenTuplet) (body : List Music) (f : Forest)
    → fill_one (leaving 0 o) (filled body f) ≡ filled (o.before ++ music.Tuplet o.p o.q body ∷ []) f
close_one o body f = ap (λ nodes. tuplet_of o nodes f) (append-nil body)

-- at the end each tuplet closes
pub end_one : (o : OpenTuplet) (n : ℕ) (body : List Music)
    → fill_one (leaving n o) (filled body none_more) ≡ filled (o.before ++ music.Tuplet o.p o.q body ∷ []) none_more
end_one o zero body = ap (λ nodes. tuplet_of o nodes none_more) (append-nil body)
end_one o (suc n) body = ap (λ nodes. tuplet_of o nodes none_more) (append-nil body)

-- The same inside other tuplets.
pub event_puts : (os : List OpenTuplet) (o : OpenTuplet) (n : ℕ) (body : List Music) (w : List Music)
    → o.left ≡ suc n → (f : Forest) → whole (os ++ leaving n o ∷ []) (body ++ w) f ≡ whole (os ++ o ∷ []) body (one w f)
event_puts os o n body w e f =
    ap finish (fill_last os (leaving n o) (filled (body ++ w) f))
    ∙ ap (λ z. finish (filled_tuplets os z)) (event_one o n body w f)
    ∙ ap (λ k. finish (filled_tuplets os (fill_one (leaving k o) (filled body (one w f))))) (sym e)
    ∙ ap finish (sym (fill_last os o (filled body (one w f))))

pub group_puts : (os : List OpenTuplet) (o : OpenTuplet) (n p q r : ℕ) (body : List Music)
    → o.left ≡ suc n → (f : Forest)
    → whole ((os ++ leaving (suc n - r) o ∷ []) ++ record { p = p; q = q; left = r; before = body } ∷ []) [] f
    ≡ whole (os ++ o ∷ []) body (group p q r (cut r f).taken (cut r f).left)
group_puts os o n p q r body e f =
    let inner : OpenTuplet = record { p = p; q = q; left = r; before = body } in
    let g : Forest = group p q r (cut r f).taken (cut r f).left in
    ap finish (fill_last (os ++ leaving (suc n - r) o ∷ []) inner (filled [] f))
    ∙ ap finish (fill_last os (leaving (suc n - r) o) (fill_one inner (filled [] f)))
    ∙ ap (λ z. finish (filled_tuplets os z)) (group_one o n p q r body f)
    ∙ ap (λ k. finish (filled_tuplets os (fill_one (leaving k o) (filled body g)))) (sym e)
    ∙ ap finish (sym (fill_last os o (filled body g)))

pub close_puts : (os : List OpenTuplet) (o : OpenTuplet) (body : List Music)
    → o.left ≡ 0 → (f : Forest) → whole os (o.before ++ music.Tuplet o.p o.q body ∷ []) f ≡ whole (os ++ o ∷ []) body f
close_puts os o body e f =
    ap (λ z. finish (filled_tuplets os z)) (sym (close_one o body f))
    ∙ ap (λ k. finish (filled_tuplets os (fill_one (leaving k o) (filled body f)))) (sym e)
    ∙ ap finish (sym (fill_last os o (filled body f)))

pub end_puts : (os : List OpenTuplet) (o : OpenTuplet) (body : List Music)
    → whole os (o.before ++ music.Tuplet o.p o.q body ∷ []) none_more ≡ whole (os ++ o ∷ []) body none_more
end_puts os o body =
    ap (λ z. finish (filled_tuplets os z)) (sym (end_one o o.left body))
    ∙ ap finish (sym (fill_last os o (filled body none_more)))

-- In the form of the code: what was popped, pushed and put.
pub event_answer : (stack os stack' : List OpenTuplet) (o : OpenTuplet) (left : ℕ) (body body' : List Music)
    (w : List Music) → stack ≡ os ++ o ∷ [] → body' ≡ body ++ w → stack' ≡ os ++ leaving left o ∷ []
    → TakesAnother stack → left ≡ o.left - 1
    → Puts stack body stack' body' (one w)
event_answer stack os stack' o left body body' w was put is ready less f =
    let some : 1 ≤ o.left = last_ready os o (subst TakesAnother was ready) in
    let more : o.left ≡ suc left = omega arith in
    rw (was, put, is) (event_puts os o left body w more f)

pub group_answer : (stack os next stack' : List OpenTuplet) (o : OpenTuplet) (left p q r : ℕ) (body body' : List Music)
    → stack ≡ os ++ o ∷ [] → next ≡ os ++ leaving left o ∷ []
    → stack' ≡ next ++ record { p = p; q = q; left = r; before = body } ∷ []
    → body' ≡ [] → TakesAnother stack → left ≡ o.left - r
    → Puts stack body stack' body' (λ f. group p q r (cut r f).taken (cut r f).left)
group_answer stack os next stack' o left p q r body body' was mid is put ready less f =
    let some : 1 ≤ o.left = last_ready os o (subst TakesAnother was ready) in
    let more : o.left ≡ suc (o.left - 1) = omega arith in
    let same : left ≡ suc (o.left - 1) - r = omega arith in
    rw (is, mid, was, put, same) (group_puts os o (o.left - 1) p q r body more f)

pub close_answer : (stack os : List OpenTuplet) (o : OpenTuplet) (body body' : List Music)
    → stack ≡ os ++ o ∷ [] → body' ≡ o.before ++ music.Tuplet o.p o.q body ∷ [] → o.left ≡ 0 → (f : Forest)
    → whole os body' f ≡ whole stack body f
close_answer stack os o body body' was put none f = rw (was, put) (close_puts os o body none f)

pub end_answer : (stack os : List OpenTuplet) (o : OpenTuplet) (body body' : List Music)
    → stack ≡ os ++ o ∷ [] → body' ≡ o.before ++ music.Tuplet o.p o.q body ∷ []
    → whole os body' none_more ≡ whole stack body none_more
end_answer stack os o body body' was put = rw (was, put) (end_puts os o body)

pub ready_answer : (stack os : List OpenTuplet) (o : OpenTuplet)
    → stack ≡ os ++ o ∷ [] → 1 ≤ o.left → TakesAnother stack
ready_answer stack os o is some = subst TakesAnother (sym is) (ready_last os o some)
