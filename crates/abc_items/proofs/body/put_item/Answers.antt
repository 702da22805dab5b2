use Rattle.std.proofs.{Common.{rules, ◌≡◌, ◌∷◌, [], ◌++◌, subst, sym, All}, lemmas.List.Elements.All-push}
use Rattle.abc_items.specs.Good.{IsGoodItem}
use Rattle.abc_items.proofs.body.put_item.Goals as goal

pub returns-in_ok-push-in-None-clause-good : goal.returns-in_ok-push-in-None-clause-good
returns-in_ok-push-in-None-clause-good c =
    let pushed : c.push.new.self ≡ c.args.body.now.items ++ c.args.item ∷ [] = search rules in
    subst (All IsGoodItem) (sym pushed)
    (All-push IsGoodItem c.args.body.now.items c.args.item c.requires.before c.requires.item)
