use Rattle.std.proofs.Common.{◌≡◌, ℕ, ◌<◌, ◌*◌, ◌++◌, [], length, ap, ◌∙◌, arith}
use Rattle.std.specs.Map.{keys_of}
use Rattle.name_map.specs.Pages.{in_numbers, listed}
use Rattle.name_map.proofs.Listing.{worker_named}
use Rattle.name_map.proofs.map.NameMap.push_names.Goals as goal

pub loop-index-preserved : goal.loop-index-preserved
loop-index-preserved g c =
    let x = c.index.result.now in
    let at : c.in-Ok.worker ≡ c.loop-index.index = c.in-Ok.ensures.1 in
    let within : c.loop-index.index < length c.self.inside.workers.items = omega (arith, c.loop-index-test.true, c.loop-index.auto.index-end, c.len-index-end.ensures, c.self.inside.workers.ok) in
    worker_named c.self.inside.workers.items c.loop-index.index x c.loop-index.list.items c.push_names.new.list.items within c.index.ensures
    (c.in_ok-push_names.ensures ∙ ap (λ (w : ℕ). c.loop-index.list.items ++ keys_of (listed w 0 (length x.chunks.items * 512) (λ n. in_numbers n x) [])) at)
    ∙ c.loop-index.invariant
