use Rattle.std.proofs.Common.{◌≡◌, ℕ, List, [], ◌∷◌, ◌++◌, length, sym, subst, arith}
use Rattle.std.specs.Global.{Vec}
use Rattle.tree_parts.specs.Lists.{Has, list_at}
use Rattle.tree_parts.specs.Splits.{AreRenamed}
use Rattle.tree_parts.proofs.Grouping.{items_of}
use Rattle.tree_parts.proofs.Splitting.{renamed-split, renamed-listed, pushed-kept, pushed-last}
use Rattle.tree_parts.proofs.naming.detach.Goals as goal

pub returns-clause-split : goal.returns-clause-split
returns-clause-split c =
    renamed-split c.args.naming.now.names.items c.rename.new.names.items c.args.part.items c.len-3.result
    (subst (λ (ns : List ℕ). AreRenamed c.args.naming.now.names.items c.rename.new.names.items ns c.len-3.result) c.deref-3.ensures.value c.rename.ensures)

pub returns-clause-listed : goal.returns-clause-listed
returns-clause-listed c =
    let members : List (Vec ℕ) = c.args.naming.now.members.items in
    let more : List (Vec ℕ) = members ++ c.args.part ∷ [] in
    let pushed : c.push.new.self.items ≡ more = c.in_ok-push.ensures.items in
    let renamed : AreRenamed c.args.naming.now.names.items c.rename.new.names.items c.args.part.items c.len-3.result =
    subst (λ (ns : List ℕ). AreRenamed c.args.naming.now.names.items c.rename.new.names.items ns c.len-3.result) c.deref-3.ensures.value c.rename.ensures in
    let name : c.len-3.result ≡ length members = omega (arith, c.len-3.ensures, c.args.naming.now.members.ok) in
    rw pushed (renamed-listed c.args.naming.now.names.items c.rename.new.names.items c.args.part.items (items_of members) (items_of more) c.len-3.result renamed c.requires.listed (pushed-kept members c.args.part)
    (λ i h. subst (λ (n : ℕ). Has (list_at (items_of more) n) i) (sym name) (subst (λ (xs : List ℕ). Has xs i) (sym (pushed-last members c.args.part)) h)))
