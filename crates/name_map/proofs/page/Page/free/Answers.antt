use Rattle.std.proofs.Common.{◌≡◌, ◌%◌, true, List, Option, sym, ap, ◌∙◌, rules}
use Rattle.std.specs.List.{list_all}
use Rattle.name_map.specs.Free.{is_free}
use Rattle.name_map.specs.Pages.{within, in_slot}
use Rattle.name_map.proofs.Within.{none_in_free}
use Rattle.name_map.proofs.page.Page.free.Goals as goal

pub returns-then-empty : goal.returns-then-empty
returns-then-empty g c =
    let free : list_all is_free c.args.self.now.slots.items ≡ true = search rules in
    λ n. rw c.replace.ensures.after (ap (λ (xs : List (Option g.row.V.Denot)). within in_slot xs (n % 8)) c.new.ensures.items ∙ sym (none_in_free c.args.self.now.slots.items free (n % 8)))
