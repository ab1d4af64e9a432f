use Rattle.std.proofs.Common.{sym, ap, ◌∙◌, slice_get, length, refl}
use Rattle.std.proofs.lemmas.Option.{slice_get_read}
use Rattle.rational_unify.proofs.FormLaws.{bound-told}
use Rattle.rational_unify.proofs.Following.{added-end}
use Rattle.rational_unify.proofs.OlderEnds.{rebound-older}
use Rattle.rational_unify.proofs.Shortening.{KeepsEnds-refl, KeepsEnds-on, KeepsEnds-new, rebound-keeps}
use Rattle.rational_unify.proofs.one_pass.shorten.Goals as goal

pub loop-place-init : goal.loop-place-init
loop-place-init g c = (KeepsEnds-refl _ _ _ c.requires.solved, λ o. o)

pub chain_end-end-requires : goal.chain_end-end-requires
chain_end-end-requires g c = c.loop-place.invariant.0.solved

pub loop-place-preserved : goal.loop-place-preserved
loop-place-preserved g c =
    let k = c.loop-place.invariant.0 in
    let is_told = bound-told c.args.templates.now.nodes c.loop-place.added c.loop-place.place c.in-Some.binding.now (ap (λ l. slice_get l c.loop-place.place) (sym c.as_slice-in-loop-place.ensures)
    ∙ slice_get_read c.as_slice-in-loop-place.result.now (length c.as_slice-in-loop-place.result.now) c.loop-place.place c.in-Some.binding.now refl c.in-Some.ensures.lookup.3.0 c.in-Some.ensures.lookup.1) in
    let at_end = c.chain_end-end.ensures ∙ sym (added-end _ _ _ _ _ is_told k.solved (KeepsEnds-new _ _ _ _ k c.requires.fresh)) in (
      KeepsEnds-on _ _ _ _ _ k (rebound-keeps _ _ _ _ _ _ k.solved c.rebind.ensures at_end),
      λ o. rebound-older _ _ _ _ _ _ k.solved c.rebind.ensures at_end (c.loop-place.invariant.1 o),
    )
