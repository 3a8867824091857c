-- The calls of a desk in memory by kind, and its counts of faults by side.
use Rattle.std.specs.Prelude.{ℕ}
use Rattle.seg_io.specs.declared.memory_desk.CallKind.{CallKind}
use Rattle.seg_io.specs.declared.memory_desk.CallKind.TheVariants.{OpenIn, Read, OpenOut, Write}
use Rattle.seg_io.specs.declared.memory_desk.Side.{Side}
use Rattle.seg_io.specs.declared.memory_desk.Side.TheVariants.{Input, Output, Trouble}
use Rattle.seg_io.specs.InMemory.{MemoryState, told, output_at, with_output}

-- the n-th call of a kind is to fail
abbrev pub with_call_told : CallKind → ℕ → MemoryState → MemoryState
with_call_told OpenIn n m = record m { opening_in = told n m.opening_in }
with_call_told Read n m = record m { reading = told n m.reading }
with_call_told OpenOut n m = record m { opening_out = told n m.opening_out }
with_call_told (Write port) n m = record m {
  outputs = with_output port (record (output_at port m.outputs) { calls = told n (output_at port m.outputs).calls }) m.outputs;
}

abbrev pub faults_of : Side → MemoryState → ℕ
faults_of Input m = m.input_faults
faults_of Output m = m.output_faults
faults_of Trouble m = m.trouble_faults
