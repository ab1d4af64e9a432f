use Rattle.std.proofs.Common.{sym, append-nil, [], ap, ◌∙◌, slice_get, length, refl}
use Rattle.std.proofs.lemmas.Option.{slice_get_read}
use Rattle.rational_unify.proofs.FormLaws.{bound-told}
use Rattle.rational_unify.proofs.Shortening.{KeepsEnds-refl, KeepsEnds-new}
use Rattle.rational_unify.proofs.Following.{AgreeOn-refl, Settles-on, settled-older}
use Rattle.rational_unify.proofs.solver.settle.Goals as goal

pub loop-place-init : goal.loop-place-init
loop-place-init g c = (record { path = []; followed_by = sym (append-nil _); keeps = λ other h n a. KeepsEnds-refl _ _ _ h }, λ o. o)

pub follow-requires : goal.follow-requires
follow-requires g c = (c.loop-place.invariant.0.keeps (g.K.Lookup.bindings c.args.known.now) c.requires.solved c.requires.fresh (AgreeOn-refl _ _)).solved

pub loop-place-preserved : goal.loop-place-preserved
loop-place-preserved g c =
    let k = c.loop-place.invariant.0.keeps (g.K.Lookup.bindings c.args.known.now) c.requires.solved c.requires.fresh (AgreeOn-refl _ _) in
    let is_told = bound-told c.args.templates.now.nodes c.loop-place.added c.loop-place.place c.in-Some.binding.now (ap (λ l. slice_get l c.loop-place.place) (sym c.as_slice-in-loop-place.ensures)
    ∙ slice_get_read c.as_slice-in-loop-place.result.now (length c.as_slice-in-loop-place.result.now) c.loop-place.place c.in-Some.binding.now refl c.in-Some.ensures.lookup.3.0 c.in-Some.ensures.lookup.1) in (
      Settles-on _ _ _ _ _ _ _ _ _ _ _ _ c.loop-place.invariant.0 is_told c.in_ok-end.ensures c.rebind.ensures,
      λ o. settled-older _ _ _ _ _ _ _ _ _ _ _ c.in_ok-end.ensures c.rebind.ensures is_told k.solved (KeepsEnds-new _ _ _ _ k c.requires.fresh) (AgreeOn-refl _ _) (c.loop-place.invariant.1 o),
    )
