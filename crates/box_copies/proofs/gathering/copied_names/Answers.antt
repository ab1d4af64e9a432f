use Rattle.std.proofs.Common.{◌≡◌, List, [], subst}
use Rattle.std.proofs.lemmas.List.Filters.{dedup_is}
use Rattle.std.specs.List.{dedup}
use Rattle.akl_terms.specs.declared.name.Name.{Name}
use Rattle.akl_terms.specs.Names.{same_name}
use Rattle.box_copies.specs.Made.{Adds}
use Rattle.box_copies.proofs.Sets.{adds_listed, increasing_listed}
use Rattle.box_copies.proofs.gathering.copied_names.Goals as goal

pub returns-clause-all : goal.returns-clause-all
returns-clause-all c =
    let once : c.dedup.new.self.items ≡ dedup same_name c.sort_unstable.new.self.items = dedup_is same_name c.sort_unstable.new.self.items c.dedup.new.self.items c.dedup.ensures.filtered in
    subst (λ (l : List Name). Adds [] l c.dedup.new.self.items) c.in_ok-names.ensures (adds_listed c.in_ok-names.names.items c.sort_unstable.new.self.items c.dedup.new.self.items c.sort_unstable.ensures.permutation once)

pub returns-clause-increasing : goal.returns-clause-increasing
returns-clause-increasing c =
    let once : c.dedup.new.self.items ≡ dedup same_name c.sort_unstable.new.self.items = dedup_is same_name c.sort_unstable.new.self.items c.dedup.new.self.items c.dedup.ensures.filtered in
    increasing_listed c.sort_unstable.new.self.items c.dedup.new.self.items c.sort_unstable.ensures.sorted once
