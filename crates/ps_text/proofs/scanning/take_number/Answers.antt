use Rattle.std.proofs.Common.{arith, ◌≡◌, ◌<◌, sym, ◌∙◌, ap, Some, ◌∷◌, length, refl}
use Rattle.std.proofs.lemmas.Int.{to_z-of_z}
use Rattle.std.specs.Fmt.{signed_decimal}
use mir.Syntax.{w64}
use Rattle.ps_text.proofs.Numbers.{fits, prefix_of_number, back_of_number, tail_of, no_back}
use Rattle.ps_text.proofs.scanning.take_number.Goals as goal

pub returns-in_err-z-in-len1-up-clause-reads : goal.returns-in_err-z-in-len1-up-clause-reads
returns-in_err-z-in-len1-up-clause-reads c z rest h =
    let f : c.split_at.result.0.now ≡ signed_decimal z =
    rw (c.split_at.ensures.front, c.field_len.ensures.value) (prefix_of_number z rest c.args.bytes.now h) in
    let r : c.parsed.result ≡ Some z = c.parsed.ensures z h.number f in
    let o = sym c.in_err-z-in-len1-up.was ∙ r in
    let x : ⊥ = cc in
    absurd x

pub returns-in-empty-clause-reads : goal.returns-in-empty-clause-reads
returns-in-empty-clause-reads c z rest h =
    let b : c.split_at.result.1.now ≡ 32 ∷ rest =
    rw (c.split_at.ensures.back, c.field_len.ensures.value) (back_of_number z rest c.args.bytes.now h) in
    let l = c.in-empty.len_below in
    omega (arith, ap length b)

pub returns-in_ok-z-in-len1-up-clause-reads : goal.returns-in_ok-z-in-len1-up-clause-reads
returns-in_ok-z-in-len1-up-clause-reads c z rest h =
    let f : c.split_at.result.0.now ≡ signed_decimal z =
    rw (c.split_at.ensures.front, c.field_len.ensures.value) (prefix_of_number z rest c.args.bytes.now h) in
    let b : c.split_at.result.1.now ≡ 32 ∷ rest =
    rw (c.split_at.ensures.back, c.field_len.ensures.value) (back_of_number z rest c.args.bytes.now h) in
    let r : c.parsed.result ≡ Some z = c.parsed.ensures z h.number f in
    let o = sym c.in_ok-z-in-len1-up.was ∙ r in
    let q : c.in_ok-z-in-len1-up.z ≡ z = cc in
    (rw (q, to_z-of_z w64 z (fits z h.number)) refl, tail_of c.split_at.result.1.now rest 32 b)

pub returns-in_ok-z-in-len1-up-clause-last : goal.returns-in_ok-z-in-len1-up-clause-last
returns-in_ok-z-in-len1-up-clause-last c h =
    let l = c.in-len1-up.len_at_least in
    let n : length c.split_at.result.1.now < 1 =
    rw (c.split_at.ensures.back, c.field_len.ensures.value) (no_back c.args.bytes.now h) in
    let x : ⊥ = omega arith in
    absurd x
