use Rattle.std.proofs.Common.{◌≡◌, ◌/◌, ◌%◌, true, List, sym, ap, ◌∙◌, rules}
use Rattle.std.specs.List.{list_all}
use Rattle.name_map.specs.declared.page.Page.{Page}
use Rattle.name_map.specs.Pages.{within, in_page, is_bare}
use Rattle.name_map.proofs.Within.{none_in_bare}
use Rattle.name_map.proofs.page.Chunk.free_page.Goals as goal

pub returns-then-is_bare : goal.returns-then-is_bare
returns-then-is_bare g c =
    let bare : list_all is_bare c.free_one.new.self.pages.items ≡ true = search rules in
    λ n. ap (λ (xs : List (Page g.row.V.Denot)). within (in_page n) xs (n / 8 % 64)) c.new.ensures.items ∙ sym (none_in_bare c.free_one.new.self.pages.items bare n (n / 8 % 64)) ∙ c.free_one.ensures n
