-- The last brace within a chord at which a grace group may end comes after one of the shorter chords that begin at
-- the same bracket.
use Rattle.std.proofs.Common.{◌≡◌, ℕ, suc, ◌+◌, ◌-◌, ◌≤◌, Bool, true, false, eqb, List, [], ◌∷◌, ◌++◌, length, take}
use Rattle.std.proofs.Common.{drop, Bor, Option, Some, None}
use Rattle.std.proofs.Common.{refl, sym, ap, ◌∙◌, arith, append_assoc, append-nil, not, ◌&&◌, ◌||◌, option_map}
use Rattle.std.proofs.lemmas.Bool.{both_ways, cond_both}
use Rattle.std.proofs.lemmas.Bool.{and_parts, eqb-true, not-true}
use Rattle.std.proofs.lemmas.Option.{some_pair_parts}
use Rattle.std.proofs.lemmas.List.{length-append, nil_from_length}
use Rattle.std.proofs.Math.Seq.{drop-append_seam}
use Rattle.abc_notes.specs.Graces.{GracePart, single, chorded, StandsInGrace, is_in_grace, brace_at, brace_in_chord}
use Rattle.abc_notes.specs.Graces.{brace_after, brace_between}
use Rattle.abc_notes.specs.Graces.{brace_in_item, brace_in_part, inside_of_item, inside_of_part, IsItemAt}
use Rattle.abc_notes.specs.Graces.{stands_after, at_most_bytes}
use Rattle.abc_notes.specs.declared.part.GraceChord.{GraceChord}
use Rattle.abc_notes.specs.declared.part.GracePiece.{GracePiece}
use Rattle.abc_notes.specs.declared.part.Len.{Len}
use Rattle.abc_notes.specs.Decorations.{is_name_byte}
use Rattle.abc_notes.specs.Lengths.{length_then, length_from, len_of, length_read}
use Rattle.abc_notes.specs.Parts.{no_part, then_part, walk, is_done, later_or}
use Rattle.abc_notes.specs.Items.{Inner, named_inside, lone_inside, inner_then, IsInner, has_length, InnerParts}
use Rattle.abc_notes.specs.Items.{name_at, named_or, inner_at}
use Rattle.abc_notes.specs.Chords.{bracket_in, bracket_in_name, bracket_at}
use Rattle.abc_notes.proofs.GraceLaws.{ClosedGroup, brace_at-closes, none_there, chord-none, chord-some, FoundPart}
use Rattle.abc_notes.proofs.GraceLaws.{part_reader}
use Rattle.abc_notes.proofs.ChordLaws.{last_at, last_at-none, last_at-some, good_before, parts_before, in_name-finds}
use Rattle.abc_notes.proofs.ChordLaws.{in_name-reads}
use Rattle.abc_notes.proofs.ChordLaws.{bracket_at-closes, bracket_within, later_none, later_assoc, cut_off}
use Rattle.abc_notes.proofs.ItemLaws.{bang_at}
use Rattle.abc_notes.proofs.CutLaws.{first_same, inner_append, length_append, all_parts, inner_local, joined_cut}
use Rattle.abc_notes.proofs.CutLaws.{is_named, not_named, lone_at}
use Rattle.abc_notes.proofs.CutLaws.{name_upto-append}
use Rattle.abc_notes.proofs.PartLaws.{stands_at, at_nil, longest_is, walk_of_parts, left_none, left_some}
use Rattle.abc_notes.proofs.{InnerLaws.{inner_reader, inner_pair, length-length_then}, LengthLaws.length_at-takes}
use Rattle.std.specs.List.{list_all}

joined : (x y : List ℕ) (a b : Option (List ℕ)) →
    later_or (option_map (λ c. c ++ y) a) (option_map (λ c. c ++ (x ++ y)) b)
    ≡ option_map (λ c. c ++ y) (later_or a (option_map (λ c. c ++ x) b))
joined x y (Some a) b = refl
joined x y None None = refl
joined x y None (Some b) = ap Some (sym (append_assoc b x y))

add_nothing : (r : Option (List ℕ)) → option_map (λ c. c ++ []) r ≡ r
add_nothing None = refl
add_nothing (Some c) = ap Some (append-nil c)

after_mark : (mark : Option (List ℕ)) (rest v y : List ℕ)
    → rest ≡ v ++ y → stands_after (option_map (λ m. m ++ rest) mark) (Some y)
after_mark None rest v y is = tt
after_mark (Some m) rest v y is =
    let whole : m ++ rest ≡ (m ++ v) ++ y = ap (λ x. m ++ x) is ∙ sym (append_assoc m v y) in
    whole ∙ ap (λ x. x ++ y) (sym (cut_off (m ++ rest) (m ++ v) y whole))

-- the size of a bracket, as a measure
abbrev pub size_of : Option (List ℕ) → ℕ
size_of None = 0
size_of (Some bytes) = length bytes

size_most : (n : ℕ) (bracket : Option (List ℕ)) → at_most_bytes n bracket → size_of bracket ≤ n
size_most n None h = omega arith
size_most n (Some b) h = h

within_prefix : (prefix w c rest : List ℕ) → 91 ∷ w ≡ prefix ++ c → c ≡ 125 ∷ rest → length c ≤ length w
within_prefix [] w c rest cut is = absurd (omega (arith, first_same (cut ∙ is)))
within_prefix (b ∷ prefix) w c rest cut is = omega (arith, ap length cut, length-append prefix c)

-- what follows a length
pub length_shorter : (s : List ℕ) {rest : List ℕ} {len : Len}
    → length_read len rest ≡ length_read (len_of (length_from s).0) (length_from s).1
    → length rest ≤ length s
length_shorter s e =
    let l = length_from s in
    omega (arith, ap (λ p. length p.1) e, ap length (length_at-takes s).0, length-length_then l.0 l.1)

module _ (bang : Bool) where
  -- ---- the bracket in a name that is a part, from it on up to the end of the part
  abbrev own_bracket : Bool → Inner → Option (List ℕ)
  own_bracket head (named_inside name) = bracket_in_name bang head (33 ∷ (name ++ (33 ∷ [])))
  own_bracket head _ = None

  unnamed_in : (head : Bool) (s : List ℕ) (z : Inner × List ℕ) (r : Option (List ℕ × List ℕ))
      → named_or r s ≡ Some z → is_named z.0 ≡ false
      → bracket_in bang head s r ≡ None
  unnamed_in head s z None e n = refl
  unnamed_in head s z (Some named) e n =
      let same = (some_pair_parts (named_inside named.0) z.0 named.1 z.1 e).0 in
      absurd (both_ways (is_named z.0) n (ap is_named (sym same)))

  unnamed_own : (head : Bool) (s : List ℕ) (z : Inner × List ℕ)
      → inner_at bang s ≡ Some z → is_named z.0 ≡ false → bracket_in_name bang head s ≡ None
  unfolding bracket_in_name
  unnamed_own head [] z e n = refl
  unnamed_own head (b ∷ s) z e n =
      cond_both {A = Option (List ℕ)} (eqb b 33 && not bang) _ None (λ r. r ≡ None)
      (λ h.
      let p = and_parts (eqb b 33) (not bang) h in
      let read =
      sym (bang_at bang s (not-true bang p.1)) ∙ ap (λ x. inner_at bang (x ∷ s)) (sym (eqb-true b 33 p.0)) ∙ e in
      unnamed_in head s z (name_at s) read n)
      (λ h. refl)

  part_own : (head : Bool) (part : Inner) (x : List ℕ)
      → IsInner bang part → inner_at bang (inner_then part x) ≡ Some (inner_pair part x)
      → bracket_in_name bang head (inner_then part x) ≡ option_map (λ m. m ++ x) (own_bracket head part)
  part_own head (named_inside name) x good e =
      in_name-reads bang head name x good.0 good.1 ∙ name_upto-append 93 (good_before bang head) name x
      ∙ ap (option_map (λ (m : List ℕ). m ++ x)) (sym (in_name-reads bang head name [] good.0 good.1))
  part_own head part x good e = unnamed_own head (inner_then part x) (part, x) e refl

  -- ---- the text before a bracket in a name contains no bracket after the mark
  quiet_parts : (head : Bool) (u : List ℕ) (ps : List Inner)
      → InnerParts bang u ps → list_all is_name_byte u ≡ true → last_at bang head u ≡ None
  quiet_parts head _ _ no_part h = last_at-none bang head [] (at_nil (inner_reader bang))
  quiet_parts head _ _ (then_part u part rest more l others) h =
      let at = longest_is (inner_reader bang) u part rest l in
      let names = ap (list_all is_name_byte) (sym l.stands.cut) ∙ h in
      let following = all_parts is_name_byte (inner_then part []) rest
      (ap (list_all is_name_byte) (inner_append part [] rest) ∙ names) in
      let later = quiet_parts (head || has_length part) rest more others following.1 in
      last_at-some bang head u (part, rest) at
      ∙ rw later (unnamed_own head u (part, rest) at (not_named part rest names))

  quiet_mark : (head : Bool) (u : List ℕ) (ps : List Inner)
      → bang ≡ false → InnerParts bang u ps → list_all is_name_byte u ≡ true
      → last_at bang head (33 ∷ u) ≡ None
  quiet_mark head u ps off good h =
      let at = lone_at bang u off h in let later = quiet_parts (head || has_length lone_inside) u ps good h in
      last_at-some bang head (33 ∷ u) (lone_inside, u) at
      ∙ rw later (unnamed_own head (33 ∷ u) (lone_inside, u) at refl)

  -- a bracket in a name
  candidate : (head : Bool) (rest closing : List ℕ) → bracket_in_name bang head rest ≡ Some closing →
      (before : List ℕ) × (rest ≡ before ++ closing) × (last_at bang head before ≡ None)
  candidate head rest closing e =
      let f = in_name-finds bang head rest closing e in let k = f.name in
      let quiet = quiet_mark head k.before _ f.off (parts_before bang head k.before k.good) k.names in
      (33 ∷ k.before, f.is ∙ ap (λ x. 33 ∷ x) k.cut, quiet)

  -- ---- the state of the loop over the inside of a chord

  -- the last brace before a bracket
  abbrev pub brace_upto : List ℕ → Option (List ℕ) → Option (List ℕ)
  brace_upto w None = None
  brace_upto w (Some b) = option_map (λ c. c ++ b) (brace_in_chord bang (take (length w - length b) w))

  pub record Passing (head : Bool) (w : List ℕ) (bracket last : Option (List ℕ)) (rest : List ℕ) : Type 0 where
    pub prefix : List ℕ
    pub mark : Option (List ℕ)
    pub cut : w ≡ prefix ++ rest
    pub is : bracket ≡ option_map (λ m. m ++ rest) mark
    pub brackets : (v y : List ℕ)
        → rest ≡ v ++ y → bracket_at bang (prefix ++ v) ≡ later_or (last_at bang head v) (option_map (λ m. m ++ v) mark)
    pub found : last ≡ brace_upto w bracket
    pub left : (walk (inner_at bang) rest).1 ≡ (walk (inner_at bang) w).1

  pub passing-begins : (w : List ℕ) → Passing false w None None w
  unfolding bracket_at
  passing-begins w =
      let brackets = λ (v y : List ℕ) (e : w ≡ v ++ y). sym (later_none (last_at bang false v)) in
      record { prefix = []; mark = None; cut = refl; is = refl; brackets = brackets; found = refl; left = refl }

  upto_mark : (w prefix rest v y : List ℕ) (mark last : Option (List ℕ)) → w ≡ prefix ++ rest → rest ≡ v ++ y →
      bracket_at bang (prefix ++ v) ≡ option_map (λ m. m ++ v) mark
      → last ≡ brace_upto w (option_map (λ m. m ++ rest) mark)
      → later_or (brace_between bang (option_map (λ m. m ++ rest) mark) (Some y)) last
      ≡ option_map (λ c. c ++ y) (brace_in_chord bang (prefix ++ v))
  upto_mark w prefix rest v y None last cut is at found = rw (found, chord-none bang (prefix ++ v) at) refl
  upto_mark w prefix rest v y (Some m) last cut is at found =
      let k = bracket_at-closes bang (prefix ++ v) (m ++ v) at in let b = m ++ rest in
      let whole : b ≡ (m ++ v) ++ y = ap (λ x. m ++ x) is ∙ sym (append_assoc m v y) in
      let line : w ≡ k.prefix ++ b =
      cut
      ∙ ap (λ x. prefix ++ x) is
      ∙ sym (append_assoc prefix v y)
      ∙ ap (λ x. x ++ y) k.cut
      ∙ append_assoc k.prefix (m ++ v) y
      ∙ ap (λ x. k.prefix ++ x) (sym whole) in
      let short = cut_off (prefix ++ v) k.prefix (m ++ v) k.cut in
      rw (
        found,
        cut_off b (m ++ v) y whole,
        cut_off w k.prefix b line,
        whole,
        chord-some bang (prefix ++ v) (m ++ v) at,
        short,
      )
      (joined (m ++ v) y (brace_after bang (m ++ v)) (brace_in_chord bang k.prefix))

  small_mark : (head : Bool) (prefix rest : List ℕ) (mark : Option (List ℕ)) (n : ℕ) →
      bracket_at bang (prefix ++ []) ≡ later_or (last_at bang head []) (option_map (λ m. m ++ []) mark)
      → length prefix + length rest ≤ n
      → at_most_bytes n (option_map (λ m. m ++ rest) mark)
  small_mark head prefix rest None n e h = tt
  small_mark head prefix rest (Some m) n e h =
      let quiet = last_at-none bang head [] (at_nil (inner_reader bang)) in
      let short = bracket_within bang (prefix ++ []) (m ++ []) (e ∙ ap (λ r. later_or r (Some (m ++ []))) quiet) in
      omega (arith, h, short, length-append prefix [], length-append m [], length-append m rest)

  module _ {head : Bool} {w : List ℕ} {bracket last : Option (List ℕ)} {rest : List ℕ}
      (stage : Passing head w bracket last rest) where
    passing-upto : (v y : List ℕ) → rest ≡ v ++ y → last_at bang head v ≡ None →
        later_or (brace_between bang bracket (Some y)) last
        ≡ option_map (λ c. c ++ y) (brace_in_chord bang (stage.prefix ++ v))
    passing-upto v y is quiet =
        let at = stage.brackets v y is ∙ ap (λ r. later_or r (option_map (λ (m : List ℕ). m ++ v) stage.mark)) quiet in
        ap (λ b. later_or (brace_between bang b (Some y)) last) stage.is
        ∙ upto_mark w stage.prefix rest v y stage.mark last stage.cut is at (stage.found ∙ ap (brace_upto w) stage.is)

    passing-following : (v y : List ℕ) → rest ≡ v ++ y → stands_after bracket (Some y)
    passing-following v y is = rw stage.is (after_mark stage.mark rest v y is)

    pub rest-following : stands_after bracket (Some rest)
    rest-following = passing-following [] rest refl

    -- whether or not there is a bracket in a name
    found_or : (closing : Option (List ℕ)) → bracket_in_name bang head rest ≡ closing →
        (later_or (brace_between bang bracket closing) last ≡ brace_upto w (later_or closing bracket))
        × stands_after bracket closing
    found_or None e = (stage.found, tt)
    found_or (Some closing) e =
        let c = candidate head rest closing e in let u = stage.prefix ++ c.0 in
        let line : w ≡ u ++ closing =
        stage.cut ∙ ap (λ x. stage.prefix ++ x) c.1 ∙ sym (append_assoc stage.prefix c.0 closing) in
        let upto = ap (λ (t : List ℕ). option_map (λ (x : List ℕ). x ++ closing) (brace_in_chord bang t))
        (sym (cut_off w u closing line)) in
        (passing-upto c.0 closing c.1 c.2 ∙ upto, passing-following c.0 closing c.1)

    pub passing-found : {closing : Option (List ℕ)} → closing ≡ bracket_in_name bang head rest →
        later_or (brace_between bang bracket closing) last ≡ brace_upto w (later_or closing bracket)
    passing-found {closing} e = (found_or closing (sym e)).0

    pub closing-following : {closing : Option (List ℕ)}
        → closing ≡ bracket_in_name bang head rest → stands_after bracket closing
    closing-following {closing} e = (found_or closing (sym e)).1

    pub passing-small : (n : ℕ) → length w ≤ n → at_most_bytes n bracket
    passing-small n h =
        let within : length stage.prefix + length rest ≤ n =
        omega (arith, h, ap length stage.cut, length-append stage.prefix rest) in
        rw stage.is (small_mark head stage.prefix rest stage.mark n (stage.brackets [] rest refl) within)

    pub passing-size : size_of bracket ≤ length w
    passing-size = size_most (length w) bracket (passing-small (length w) (omega arith))

    pub passing-next : {new : Bool} {next found : Option (List ℕ)} {following : List ℕ} {part : Inner} →
        inner_at bang rest ≡ Some (inner_pair part following) → new ≡ (head || has_length part) →
        next ≡ later_or (bracket_in_name bang head rest) bracket
        → found ≡ brace_upto w next → Passing new w next found following
    passing-next {following = following} {part = part} e newly nextly so_far =
        let r = inner_reader bang in let stands = stands_at r rest (part, following) e in
        let one = inner_then part [] in let own = own_bracket head part in
        let split : rest ≡ one ++ following = stands.cut ∙ sym (inner_append part [] following) in
        let before = stage.is ∙ ap (λ (x : List ℕ). option_map (λ (m : List ℕ). m ++ x) stage.mark) split in
        let named = ap (bracket_in_name bang head) stands.cut
        ∙ part_own head part following stands.good (ap (inner_at bang) (sym stands.cut) ∙ e) in
        rw newly (record {
          prefix = stage.prefix ++ one;
          mark = later_or own (option_map (λ (m : List ℕ). m ++ one) stage.mark);
          cut = stage.cut ∙ ap (λ x. stage.prefix ++ x) split ∙ sym (append_assoc stage.prefix one following);
          is = nextly ∙ rw (named, before) (joined one following own stage.mark);
          brackets = λ v y is.
              let u = one ++ v in let there = joined_cut r (inner_local bang) rest y v (part, following) e is in
              let line : rest ≡ u ++ y = rw (inner_append part [] v) there.0 in
              let at : inner_at bang u ≡ Some (inner_pair part v) = rw (inner_append part [] v) there.1 in
              let named : bracket_in_name bang head u ≡ option_map (λ (m : List ℕ). m ++ v) own =
              rw (inner_append part [] v) (part_own head part v stands.good there.1) in
              let later = last_at bang (head || has_length part) v in
              ap (bracket_at bang) (append_assoc stage.prefix one v) ∙ stage.brackets u y line
              ∙ rw (last_at-some bang head u (part, v) at, named, later_assoc later, joined one v own stage.mark) refl;
          found = so_far;
          left = sym (left_some r rest (part, following) e) ∙ stage.left;
        })

    pub passing-ends : inner_at bang rest ≡ None → is_done (walk (inner_at bang) w) ≡ true →
        later_or (brace_between bang bracket (Some rest)) last ≡ brace_in_chord bang w
    passing-ends none done =
        let nothing : rest ≡ [] =
        sym (left_none (inner_reader bang) rest none) ∙ stage.left ∙ nil_from_length _ (eqb-true _ 0 done) in
        let quiet = last_at-none bang head [] (at_nil (inner_reader bang)) in
        let all = brace_in_chord bang (stage.prefix ++ []) in
        passing-upto [] rest refl quiet
        ∙ ap (λ (x : List ℕ). option_map (λ (c : List ℕ). c ++ x) all) nothing
        ∙ add_nothing all
        ∙ ap (brace_in_chord bang) (ap (λ x. stage.prefix ++ x) (sym nothing) ∙ sym stage.cut)

  -- ---- what is found is within the chord
  pub chord-within : (w c : List ℕ) → brace_in_chord bang w ≡ Some c → length c ≤ length w
  unfolding brace_in_chord
  chord-within w c e = let k = brace_at-closes bang (91 ∷ w) c e in within_prefix k.prefix w c k.rest k.cut k.is

  clear_closed : (w d : List ℕ) → list_all is_in_grace w ≡ true → ClosedGroup bang (91 ∷ w) d → ⊥
  clear_closed w d clear k =
      let line = k.cut ∙ ap (λ x. k.prefix ++ x) k.is in
      let clash = (all_parts is_in_grace k.prefix (125 ∷ k.rest) (ap (list_all is_in_grace) (sym line) ∙ clear)).1 in cc

  pub clear-none : (w : List ℕ) → list_all is_in_grace w ≡ true → brace_in_chord bang w ≡ None
  unfolding brace_in_chord
  clear-none w clear = none_there bang (91 ∷ w) (brace_at bang (91 ∷ w)) refl (λ d k. clear_closed w d clear k)

  -- ---- the part as the code reads it
  same_brace_in : (item : GracePiece) (part : GracePart) (text : List ℕ) → inside_of_item item ≡ inside_of_part part →
      brace_in_item bang item text ≡ brace_in_part bang part text
  same_brace_in (GracePiece.Part p) (single f) text e = refl
  same_brace_in (GracePiece.Part p) (chorded f) text e = absurd cc
  same_brace_in (GracePiece.Chord inside) (single f) text e = absurd cc
  same_brace_in (GracePiece.Chord inside) (chorded f) text e = let same : inside.now ≡ f.inside = cc in rw same refl

  item_stands : (item : GracePiece) (part : GracePart) (text following : List ℕ)
      → inside_of_item item ≡ inside_of_part part
      → StandsInGrace bang part text following → IsItemAt bang item text
  item_stands (GracePiece.Part p) part text following e stands = tt
  item_stands (GracePiece.Chord inside) (single f) text following e stands = absurd cc
  item_stands (GracePiece.Chord inside) (chorded f) text following e stands =
      let same : inside.now ≡ f.inside = cc in let tail = 93 ∷ length_then f.length following in
      let drops = ap (drop (suc (length f.inside))) stands.cut ∙ drop-append_seam (91 ∷ f.inside) tail in
      rw same (
        omega (arith, ap length stands.cut, length-append f.inside tail),
        rw (walk_of_parts (inner_reader bang) f.inside f.parts stands.good.parts) refl,
        stands.cut ∙ ap (λ t. (91 ∷ f.inside) ++ t) (sym drops),
      )

  module _ (item : GracePiece) {text following : List ℕ} {body : List GraceChord} {lengthy : Bool}
      (f : FoundPart bang text body lengthy (inside_of_item item) following) where
    pub item-brace : brace_in_item bang item text ≡ brace_in_part bang f.part text
    item-brace = same_brace_in item f.part text f.encloses

    pub item-at : IsItemAt bang item text
    item-at =
        item_stands item f.part text following f.encloses (stands_at (part_reader bang) text (f.part, following) f.at)

  -- ---- after one chord, up to a closing byte
  pub brace_fits : (s : List ℕ) {rest brace : List ℕ} {len : Len}
      → length_read len rest ≡ length_read (len_of (length_from s).0) (length_from s).1
      → Some brace ≡ brace_at bang rest → length brace ≤ length s
  brace_fits s {rest} {brace} e found =
      let k = brace_at-closes bang rest brace (sym found) in
      omega (arith, length_shorter s e, ap length k.cut, length-append k.prefix brace)

  pub past_is : (closing : List ℕ) {bracket chord s rest brace : List ℕ} {b : ℕ} {len : Len} →
      bracket ≡ take (length bracket - length closing) bracket ++ closing
      → chord ≡ take (length bracket - length closing) bracket → chord ≡ b ∷ s
      → length_read len rest ≡ length_read (len_of (length_from s).0) (length_from s).1
      → Some brace ≡ brace_at bang rest
      → Some (drop (length chord - length brace) bracket) ≡ brace_between bang (Some bracket) (Some closing)
  past_is closing {bracket} {chord} {s} {rest} {brace} {b} following is first e found =
      let k = brace_at-closes bang rest brace (sym found) in let l = length_from s in
      let x = length_then l.0 [] in let y = b ∷ (x ++ k.prefix) in
      let same : rest ≡ l.1 = ap (λ p. p.1) e in
      let long : length_then l.0 l.1 ≡ x ++ (k.prefix ++ brace) =
      sym (length_append l.0 [] l.1) ∙ ap (λ t. x ++ t) (sym same ∙ k.cut) in
      let split = (length_at-takes s).0 ∙ long ∙ sym (append_assoc x k.prefix brace) in
      let spelled : chord ≡ y ++ brace = first ∙ ap (λ t. b ∷ t) split in
      let line = following ∙ ap (λ t. t ++ closing) (sym is ∙ spelled) ∙ append_assoc y brace closing in
      let count : length chord - length brace ≡ length y = omega (arith, ap length spelled, length-append y brace) in
      let drops : drop (length chord - length brace) bracket ≡ brace ++ closing =
      ap (λ n. drop n bracket) count ∙ ap (drop (length y)) line ∙ drop-append_seam y (brace ++ closing) in
      let reads = ap (brace_after bang) (sym is ∙ first) ∙ ap (brace_at bang) (sym same) ∙ sym found in
      ap Some drops ∙ ap (option_map (λ (c : List ℕ). c ++ closing)) (sym reads)

  -- ---- in a part
  drops_in_chord : (text inside brace : List ℕ)
      → text ≡ (91 ∷ inside) ++ drop (suc (length inside)) text → Some brace ≡ brace_in_chord bang inside
      → drop (length inside + 1 - length brace) text ≡ brace ++ drop (suc (length inside)) text
  unfolding brace_in_chord
  drops_in_chord text inside brace cut found =
      let k = brace_at-closes bang (91 ∷ inside) brace (sym found) in let tail = drop (suc (length inside)) text in
      let count : length inside + 1 - length brace ≡ length k.prefix =
      omega (arith, ap length k.cut, length-append k.prefix brace) in
      let line : text ≡ k.prefix ++ (brace ++ tail) =
      cut ∙ ap (λ t. t ++ tail) k.cut ∙ append_assoc k.prefix brace tail in
      ap (λ n. drop n text) count ∙ ap (drop (length k.prefix)) line ∙ drop-append_seam k.prefix (brace ++ tail)

  pub chord-brace : (text : List ℕ) {item : GracePiece} {brace : List ℕ} {inside : Bor (List ℕ)}
      → item ≡ GracePiece.Chord inside
      → IsItemAt bang item text → Some brace ≡ brace_in_chord bang inside.now →
      Some (drop (length inside.now + 1 - length brace) text) ≡ brace_in_item bang item text
  chord-brace text {item} {brace} {inside} is at some =
      let here : IsItemAt bang (GracePiece.Chord inside) text = rw is at at in
      let tail = drop (suc (length inside.now)) text in
      rw is (ap Some (drops_in_chord text inside.now brace here.2 some)
      ∙ ap (option_map (λ (b : List ℕ). b ++ tail)) some)
