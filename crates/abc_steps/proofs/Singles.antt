-- A length that a value has consists of that value alone when it is split into parts.
use Rattle.std.proofs.Common.{◌≡◌, ◌∙◌, sym, ap, ℕ, ◌-◌, ◌≤◌, [], ◌∷◌, Some, option_map, arith}
use Rattle.mus_units.specs.declared.value.Value.{Value}
use Rattle.mus_units.specs.Parts.{IsValueOf, IsLongestValue, units_of, parts_list}
use Rattle.mus_units.proofs.Longest.{value_some}
use Rattle.mus_units.proofs.Listed.{cut_at_end, cut_on, listed_is}

pub one_part : (num den : ℕ) (v : Value) → 1 ≤ den → IsValueOf num den v → Some (v ∷ []) ≡ parts_list num den
one_part num den v above is =
    let all = units_of v in
    let low : 8 ≤ all = value_some v in
    let longest : IsLongestValue all v = record { dots = is.0; within = omega arith; longest = λ w few less. less } in
    let rest : all - all ≡ 0 = omega arith in
    sym (listed_is num den all above is.1
    ∙ (cut_on 7 all v (omega (arith, low)) longest ∙ ap (option_map (λ vs. v ∷ vs)) (cut_at_end 7 (all - all) rest)))
