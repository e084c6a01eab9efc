-- The bytes copied into the part are what the buffer has written there.
use native.Mathlib.Omega.{arith}
use Rattle.lists.proofs.Copied.{put_mid-overwrite}
use Rattle.octets.proofs.put.Goals as goal

pub returns-clause-written : goal.returns-clause-written
returns-clause-written c = put_mid-overwrite _ _ c.args.bytes.now c.args.at _ c.copy_from_slice.ensures.after (omega arith)
