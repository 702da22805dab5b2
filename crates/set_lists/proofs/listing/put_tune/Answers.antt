use Rattle.std.proofs.Common.{◌++◌, [], ◌∙◌, ap}
use Rattle.{lay_cert.specs.{Lines.lines_then, Listing.entry_lines}, set_lists.specs.Listing.{entry_of}}
use Rattle.set_lists.proofs.listing.put_tune.Goals as goal

pub returns : goal.returns
returns c =
    let e = entry_of c.args.ordinal c.args.tune.now in
    c.in_ok-put_entry.ensures
    ∙ ap (λ spans. c.args.out.now ++ lines_then (entry_lines (record e { spans = spans })) []) c.as_slice.ensures
