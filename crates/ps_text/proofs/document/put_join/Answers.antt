use Rattle.std.proofs.Common.{◌≡◌, ◌<◌, ◌≤◌, ◌-◌, List, [], ◌∷◌, length, get_or, take, drop, append-nil, arith, refl}
use Rattle.std.proofs.Common.{sym}
use Rattle.std.proofs.lemmas.List.{take_all}
use Rattle.std.proofs.lemmas.Int.{ints}
use Rattle.ps_text.{specs.declared.sheet.Staff.Staff, specs.Document.join_text, proofs.Signs.as_passed}
use Rattle.ps_text.proofs.document.put_join.Goals as goal

few_unjoined : (staves : List Staff) → length staves < 2 → join_text staves ≡ []
few_unjoined [] h = refl
few_unjoined (s ∷ []) h = refl
few_unjoined (s ∷ t ∷ rest) h = absurd (omega (arith, h))

from_two : (staves : List Staff) (s t : Staff)
    → 2 ≤ length staves → s ≡ get_or staves 0 s → t ≡ get_or staves 1 t
    → staves ≡ s ∷ t ∷ take (length staves - 2) (drop 2 staves)
from_two [] s t h at_0 at_1 = absurd (omega (arith, h))
from_two (u ∷ []) s t h at_0 at_1 = absurd (omega (arith, h))
from_two (u ∷ v ∷ rest) s t h at_0 at_1 =
    let all : take (length (u ∷ v ∷ rest) - 2) rest ≡ rest = take_all _ rest (omega arith) in rw (at_0, at_1, all) refl

pub returns-in-empty : goal.returns-in-empty
returns-in-empty c = rw (few_unjoined _ c.in-empty.len_below) (sym (append-nil c.args.out.now))

pub overflow_add-first : goal.overflow_add-first
overflow_add-first c =
    let top = rw (from_two _ _ _ c.in-len2-up.len_at_least c.first-item.is c.next-item.is) at c.requires.joined in
    search (arith, ints, top)

pub returns-in-len2-up : goal.returns-in-len2-up
returns-in-len2-up c =
    let whole = from_two _ _ _ c.in-len2-up.len_at_least c.first-item.is c.next-item.is in
    let top = rw whole at c.requires.joined in
    rw whole (grind (arith, as_passed, top))
