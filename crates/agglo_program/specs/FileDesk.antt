-- What a desk over real files tells: its faults, and the ports that it opened.
use Rattle.std.specs.Prelude.{false, List, [], map, None, string_bytes}
use Rattle.seg_io.specs.Desk.{DeskState, Opened}
use Rattle.agglo_program.specs.declared.file_desk.OpenedPort.{OpenedPort}

-- what it keeps of the ports that it opened
abbrev pub opened_ports : List OpenedPort → List Opened
opened_ports ports = map (λ opened. record { port = opened.port; name = string_bytes opened.name }) ports

-- no call was made yet; neither files nor bytes are told
abbrev pub new_desk : DeskState
new_desk = record {
  input_faults = 0;
  output_faults = 0;
  trouble_faults = 0;
  files = None;
  misses = 0;
  has_input = false;
  input = None;
  labels = None;
  tree = None;
  volume = None;
  note = None;
  trouble = None;
  opened = [];
}
