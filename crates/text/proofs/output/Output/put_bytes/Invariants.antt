use Rattle.std.proofs.Common.{take}
use Rattle.text.specs.Output.{Laid}
use Rattle.text.proofs.output.Output.put_bytes.Given as goal

abbrev pub invariant-loop-byte : goal.invariant-loop-byte
invariant-loop-byte l = Laid l.initial.self (take l.byte-index l.bytes) l.self
