-- Two digits more, behind those of the bytes before.
use mathlib.Core.Path.{refl, sym}
use mathlib.Core.List.{append-nil, append_assoc}
use native.Mathlib.Omega.{arith}
use lib.ListN.{length-append}
use lib.Seq.{length-take-le}
use Rattle.std.proofs.Common.{rules}
use Rattle.text_rules.specs.Hex.{hex_digits}
use Rattle.text_rules.proofs.Hex.{length_hex_digits, hex_more}
use Rattle.fault_text.proofs.put_hex_digits.Goals as goal

pub loop-byte-init : goal.loop-byte-init
unfolding hex_digits
loop-byte-init g c = sym (append-nil c.args.text.now)

pub push-requires : goal.push-requires
push-requires g c =
    let i = c.loop-byte.byte-index in
    let bytes = c.args.bytes.now in
    (search rules, rw (c.loop-byte.invariant, length-append, length_hex_digits) (omega (arith, c.requires, length_hex_digits bytes, length-take-le i bytes (omega (arith, c.loop-byte-test.true)), c.loop-byte-test.true)))

pub push-requires-in-loop-byte : goal.push-requires-in-loop-byte
push-requires-in-loop-byte g c =
    let i = c.loop-byte.byte-index in
    let bytes = c.args.bytes.now in
    (search rules, rw (c.push.ensures, length-append, c.loop-byte.invariant, length-append, length_hex_digits) (omega (arith, c.requires, length_hex_digits bytes, length-take-le i bytes (omega (arith, c.loop-byte-test.true)), c.loop-byte-test.true)))

pub loop-byte-preserved : goal.loop-byte-preserved
loop-byte-preserved g c =
    simp (c.push-in-loop-byte.ensures, c.push.ensures, c.hex_byte.ensures, c.hex_byte-in-loop-byte.ensures, c.loop-byte.invariant, hex_more c.args.bytes.now c.loop-byte.byte-index c.loop-byte-test.true, append_assoc) refl
