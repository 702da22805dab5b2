use Rattle.std.proofs.Common.{◌++◌, ap, ◌∙◌, map, []}
use Rattle.lay_cert.specs.Lines.{lines_then}
use Rattle.lay_cert.specs.Listing.{potential_lines}
use Rattle.lay_cert.specs.declared.lines.ListingLine.{ListingLine}
use Rattle.lay_cert.proofs.Put.{put_whole}
use Rattle.lay_cert.proofs.write.put_entry.Goals as goal

pub returns : goal.returns
returns c =
    put_whole c.args.out.now c.put_line.new.out c.put_spans.new.out c.put_breaks.new.out c.put_line-2.new.out
    c.put_potentials.new.out
    (ListingLine.Tune c.args.tune c.args.bars) (ListingLine.Total c.args.breaking.now.total)
    (map ListingLine.OneSpan c.args.spans.now) (map ListingLine.Choose c.args.breaking.now.breaks)
    (potential_lines 0 c.args.breaking.now.potentials)
    c.in_ok-put_line.ensures c.in_ok-put_spans.ensures
    (c.in_ok-put_breaks.ensures
    ∙ ap (λ bs. c.put_spans.new.out ++ lines_then (map ListingLine.Choose bs) []) c.as_slice.ensures)
    c.in_ok-put_line-2.ensures
    (c.in_ok-put_potentials.ensures
    ∙ ap (λ ps. c.put_line-2.new.out ++ lines_then (potential_lines 0 ps) []) c.as_slice-2.ensures)
