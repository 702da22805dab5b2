-- The text after a bracket that opens no chord, or after a brace that opens no grace group, has one fault.
use Rattle.std.proofs.Common.{◌≡◌, ◌∙◌, refl, sym, ap, subst, ℕ, List, [], ◌∷◌, ◌++◌, Bool, true, false, None}
use Rattle.std.proofs.lemmas.Bool.{true≢false}
use Rattle.std.specs.Prelude.{◌==◌}
use Rattle.std.specs.List.{list_all}
use Rattle.abc_notes.specs.declared.part.Flaw.{Flaw}
use Rattle.abc_notes.specs.Items.{Inner, inner_then, StandsInside, has_length, IsBadByte, inner_at, item_class}
use Rattle.abc_notes.specs.Parts.{HasNone, leads_here, leads_on}
use Rattle.abc_notes.specs.Runs.{begins}
use Rattle.abc_notes.specs.Chords.{InnerLeads, is_inside, ChordFault, chord_unclosed, chord_open, chord_headless}
use Rattle.abc_notes.specs.Chords.{chord_flawed}
use Rattle.abc_notes.specs.Graces.{GracePart, GraceLeads, part_has_length, IsGraceOwn, GraceFlawed, HasSlash}
use Rattle.abc_notes.specs.Graces.{is_slash_byte, GraceFault, grace_unclosed, grace_open, grace_flawed}
use Rattle.abc_notes.proofs.PartLaws.{none_of}
use Rattle.abc_notes.proofs.InnerLaws.{inner_reader}
use Rattle.abc_notes.proofs.CutLaws.{inner_append, all_parts}
use Rattle.abc_notes.proofs.GraceLaws.{part_reader}
use Rattle.abc_notes.proofs.PartFaults.{by_test, none_at_end, one_stop, never_done, one_flaw}

-- ---- chords
none_at_bracket : (bang : Bool) (rest : List ℕ) → HasNone Inner (StandsInside bang) (93 ∷ rest)
unfolding inner_at item_class
none_at_bracket bang rest = none_of (inner_reader bang) (93 ∷ rest) refl

-- if a text has no bracket, it has none after its parts
still_inside : (bang : Bool) (text : List ℕ) (ps : List Inner) (x : List ℕ)
    → list_all is_inside text ≡ true → InnerLeads bang text ps x → list_all is_inside x ≡ true
still_inside bang _ _ _ all (leads_here text) = all
still_inside bang _ _ _ all (leads_on text part following more rest l others) =
    let cut : text ≡ inner_then part [] ++ following = l.stands.cut ∙ sym (inner_append part [] following) in
    still_inside bang following more rest
    (all_parts is_inside (inner_then part []) following (sym (ap (list_all is_inside) cut) ∙ all)).1 others

-- parts don't lead to the end, to a bracket and to another byte at once
end_or_bracket : (bang : Bool) (text : List ℕ) (ps qs : List Inner) (rest : List ℕ)
    → InnerLeads bang text ps [] → InnerLeads bang text qs (93 ∷ rest) → ⊥
end_or_bracket bang text ps qs rest l m =
    let e = one_stop (inner_reader bang) text ps [] qs (93 ∷ rest) l (none_at_end (inner_reader bang)) m
    (none_at_bracket bang rest) in
    cc

bracket_or_byte : (bang : Bool) (text : List ℕ) (ps qs : List Inner) (rest : List ℕ) (byte : ℕ) (following : List ℕ)
    → InnerLeads bang text ps (93 ∷ rest) → InnerLeads bang text qs (byte ∷ following)
    → HasNone Inner (StandsInside bang) (byte ∷ following) → (byte == 93) ≡ false → ⊥
bracket_or_byte bang text ps qs rest byte following l m none off =
    let e =
    one_stop (inner_reader bang) text ps (93 ∷ rest) qs (byte ∷ following) l (none_at_bracket bang rest) m none in
    let b : byte ≡ 93 = cc in
    true≢false (sym (ap (λ x. x == 93) b) ∙ off)

one_bad : (text : List ℕ) (f g : Flaw) → IsBadByte text f → IsBadByte text g → f ≡ g
one_bad text f g a b = a ∙ sym b

pub one_chord_fault : (bang : Bool) (text : List ℕ) (f g : Flaw)
    → ChordFault bang text f → ChordFault bang text g → f ≡ g
one_chord_fault bang _ _ _ (chord_unclosed text all) (chord_headless _ qs rest m _) =
    absurd (true≢false (sym (still_inside bang text qs (93 ∷ rest) all m)))
one_chord_fault bang _ _ _ (chord_unclosed text all) (chord_flawed _ _ _ _ _ some _ _ _ _) = cc
one_chord_fault bang _ _ _ (chord_open text ps l) (chord_headless _ qs rest m _) =
    absurd (end_or_bracket bang text ps qs rest l m)
one_chord_fault bang _ _ _ (chord_open text ps l) (chord_flawed _ _ _ _ g _ _ _ _ b) =
    absurd (never_done (inner_reader bang) has_length IsBadByte text ps None g l b)
one_chord_fault bang _ _ _ (chord_headless text ps rest l _) (chord_unclosed _ all) =
    absurd (true≢false (sym (still_inside bang text ps (93 ∷ rest) all l)))
one_chord_fault bang _ _ _ (chord_headless text ps rest l _) (chord_open _ qs m) =
    absurd (end_or_bracket bang text qs ps rest m l)
one_chord_fault bang _ _ _ (chord_headless text ps rest l _) (chord_flawed _ qs byte following _ _ m none off _) =
    absurd (bracket_or_byte bang text ps qs rest byte following l m none off)
one_chord_fault bang _ _ _ (chord_flawed text _ _ _ _ some _ _ _ _) (chord_unclosed _ all) = cc
one_chord_fault bang _ _ _ (chord_flawed text _ _ _ f _ _ _ _ a) (chord_open _ qs m) =
    absurd (never_done (inner_reader bang) has_length IsBadByte text qs None f m a)
one_chord_fault bang _ _ _ (chord_flawed text ps byte following _ _ l none off _) (chord_headless _ qs rest m _) =
    absurd (bracket_or_byte bang text qs ps rest byte following m l none off)
one_chord_fault bang _ _ _ (chord_flawed text _ _ _ f _ _ _ _ a) (chord_flawed _ _ _ _ g _ _ _ _ b) =
    one_flaw (inner_reader bang) has_length IsBadByte one_bad None text f g a b
one_chord_fault bang _ _ _ _ _ = refl

-- ---- grace groups
one_grace_own : (bang : Bool) (text : List ℕ) (f g : Flaw) → IsGraceOwn bang text f → IsGraceOwn bang text g → f ≡ g
one_grace_own bang [] f g a b = absurd a
one_grace_own bang (byte ∷ rest) f g a b =
    by_test (byte == 91) (one_chord_fault bang rest f g) (one_bad (byte ∷ rest) f g) a b

one_slash : (text : List ℕ) (slash other : Bool) (x y : List ℕ) → HasSlash text slash x → HasSlash text other y → x ≡ y
one_slash text true true x y a b = let p = a.cut in let q = b.cut in cc
one_slash text false false x y a b = sym a.cut ∙ b.cut
one_slash text true false x y a b = absurd (true≢false (ap (begins is_slash_byte) (sym a.cut ∙ b.cut) ∙ b.is_read refl))
one_slash text false true x y a b = absurd (true≢false (ap (begins is_slash_byte) (sym b.cut ∙ a.cut) ∙ a.is_read refl))

open_or_flawed : (bang : Bool) (text : List ℕ) (slash other : Bool) (x y : List ℕ) (ps : List GracePart) (f : Flaw)
    → HasSlash text slash x → HasSlash text other y → GraceLeads bang x ps [] → GraceFlawed bang None y f → ⊥
open_or_flawed bang text slash other x y ps f h k l m =
    never_done (part_reader bang) part_has_length (IsGraceOwn bang) x ps None f l
    (subst (λ t. GraceFlawed bang None t f) (one_slash text other slash y x k h) m)

pub one_grace_fault : (bang : Bool) (text : List ℕ) (f g : Flaw)
    → GraceFault bang text f → GraceFault bang text g → f ≡ g
one_grace_fault bang _ _ _ (grace_unclosed text all) (grace_flawed _ _ _ _ _ _ _ some _ _ _ _ _) = cc
one_grace_fault bang _ _ _ (grace_open text slash x ps h l) (grace_flawed _ other y _ _ _ g _ k _ _ _ b) =
    absurd (open_or_flawed bang text slash other x y ps g h k l b)
one_grace_fault bang _ _ _ (grace_flawed text _ _ _ _ _ _ some _ _ _ _ _) (grace_unclosed _ all) = cc
one_grace_fault bang _ _ _ (grace_flawed text slash x _ _ _ f _ h _ _ _ a) (grace_open _ other y qs k m) =
    absurd (open_or_flawed bang text other slash y x qs f k h m a)
one_grace_fault bang _ _ _ (grace_flawed text slash x _ _ _ f _ h _ _ _ a)
    (grace_flawed _ other y _ _ _ g _ k _ _ _ b) =
    one_flaw (part_reader bang) part_has_length (IsGraceOwn bang) (one_grace_own bang) None x f g a
    (subst (λ t. GraceFlawed bang None t g) (one_slash text other slash y x k h) b)
one_grace_fault bang _ _ _ _ _ = refl
