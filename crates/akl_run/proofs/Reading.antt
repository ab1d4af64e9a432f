-- Why a source wasn't read.
use Rattle.std.proofs.Common.{◌≡◌, ◌<◌, ◌≤◌, ℕ, List, Option, refl, arith}
use Rattle.akl_outside.specs.Transfer.{ReadSome}
use Rattle.akl_outside.specs.declared.transfer.ReadError.{ReadError}
use Rattle.akl_outside.specs.declared.transfer.ReadError.TheVariants as read_errors
use Rattle.akl_run.specs.declared.stop.Stop.{Stop}
use Rattle.akl_run.specs.Stops.{IsReadStop}
use Rattle.akl_run.specs.Commands.{Side, HasFaulted, ReadStops, fault, no_memory_read}
use Rattle.akl_run.proofs.Loading.{stops_as}

below_most : (left left' : Option (List ℕ)) → ReadSome left left' (λ n. n < 1000001) → ReadSome left left' (λ n. n ≤ 1000000)
below_most left left' r = (r.0, omega (arith, r.1), r.2)

pub read_stops : (before after : Side) (error : ReadError) (stop : Stop) → IsReadStop error stop → (error ≡ read_errors.Failed → HasFaulted before after)
    → (error ≡ read_errors.Failed → ReadSome before.bytes after.bytes (λ n. n < 1000001)) → ReadSome before.bytes after.bytes (λ n. n ≤ 1000001) → ReadStops before after stop.status stop.refusal
read_stops before after read_errors.Failed stop i faulted early some = stops_as (ReadStops before after) _ _ stop i (fault (faulted refl) (below_most before.bytes after.bytes (early refl)))
read_stops before after (read_errors.Memory e) stop i faulted early some = stops_as (ReadStops before after) _ _ stop i (no_memory_read some)
