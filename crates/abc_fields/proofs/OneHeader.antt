-- A tune has one header or one first fault of its header, and not both.
use Rattle.std.proofs.Common.{◌≡◌, ◌∙◌, sym, ap, ℕ, Option, Some, None, Result, Ok, Err}
use Rattle.std.specs.Prelude.{IfOk}
use Rattle.abc_lines.specs.declared.book.TuneText.{TuneText}
use Rattle.abc_lines.specs.declared.fault.Fault.{Fault}
use Rattle.abc_lines.specs.declared.fault.TuneError.{TuneError}
use Rattle.abc_lines.specs.Results.{IsOnlyFault, IsOnlyResult}
use Rattle.abc_fields.specs.declared.defaults.Defaults.{Defaults}
use Rattle.abc_fields.specs.declared.header.Header.{Header}
use Rattle.abc_fields.specs.Headers.{IsHeaderBy, IsHeaderOf, key_place, header_fault, IsHeaderFault, IsHeaderResult}

by_place : (tune : TuneText) (defaults : Defaults) (h k : Header) (place : Option ℕ)
    → IsHeaderBy tune defaults h place → IsHeaderBy tune defaults k place → h ≡ k
by_place tune defaults h k None a b = absurd a
by_place tune defaults h k (Some place) a b = a ∙ sym b

one_value : (tune : TuneText) (defaults : Defaults) (h k : Header)
    → IsHeaderOf tune defaults h → IsHeaderOf tune defaults k → h ≡ k
unfolding IsHeaderOf
one_value tune defaults h k a b = by_place tune defaults h k (key_place tune.lines) a b

pub one_header : (tune : TuneText) (defaults : Defaults) (result : Result Header Fault)
    → IsHeaderResult tune defaults result → IsOnlyResult (IsHeaderResult tune defaults) result
one_header tune defaults (Ok h) a (Ok k) b = ap Ok (one_value tune defaults h k a.0 b.0)
one_header tune defaults (Ok h) a (Err g) b = let clash = sym a.1 ∙ b in cc
one_header tune defaults (Err f) a (Ok k) b = let clash = sym b.1 ∙ a in cc
one_header tune defaults (Err f) a (Err g) b = let same = sym a ∙ b in cc

-- the same for what a call returns
pub only_value : (tune : TuneText) (defaults : Defaults) (result : Result Header TuneError)
    → IfOk result (λ header. IsHeaderOf tune defaults header) → IfOk result (λ header. header_fault tune ≡ None)
    → IfOk result (λ header. IsOnlyResult (IsHeaderResult tune defaults) (Ok header))
only_value tune defaults (Ok h) is clear = one_header tune defaults (Ok h) (is, clear)
only_value tune defaults (Err e) is clear = tt

pub only_fault : (tune : TuneText) (defaults : Defaults) (e : TuneError)
    → IsHeaderFault tune e → IsOnlyFault (IsHeaderResult tune defaults) e
only_fault tune defaults TuneError.Memory is = tt
only_fault tune defaults (TuneError.Fault fault) is = one_header tune defaults (Err fault) is
