use Rattle.std.proofs.Common.{◌≡◌, sym, ap, ◌∙◌, max, unwrap_or}
use Rattle.std.specs.List.{reduce}
use Rattle.std.proofs.lemmas.Iterator.{YieldsList-from_slice}
use Rattle.std.proofs.lemmas.Iterator.Consumers.{YieldsList-at, YieldsList-from_copied, max_from_yields_List}
use Rattle.std.proofs.lemmas.Iterator.Adapters.{option_map_id}
use Rattle.choice.proofs.Filling.{highest_is}
use Rattle.choice.proofs.levels.highest.Goals as goal

pub returns : goal.returns
returns c =
    let largest : c.max.result ≡ reduce max c.args.slacks.now =
    sym (option_map_id c.max.result) ∙ max_from_yields_List _ _ c.max.ensures.ran (YieldsList-from_copied (YieldsList-at c.copied.ensures.source (YieldsList-from_slice c.args.slacks.now cc))) in
    c.unwrap_or.ensures ∙ ap (λ o. unwrap_or o 0) largest ∙ highest_is c.args.slacks.now
