-- The numbers, the layers and the text of refusals. Assumes nothing.
use Rattle.std.specs.Prelude.{ℕ, List, ◌++◌, codes, decimal}
use Rattle.game.specs.declared.fault.Layer.{Layer}
use Rattle.game.specs.declared.fault.Layer.TheVariants as layer
use Rattle.game.specs.declared.fault.Reason.{Reason}
use Rattle.game.specs.declared.fault.Reason.TheVariants as reason
use Rattle.game.specs.declared.fault.Fault.{Fault}
use Rattle.game.specs.declared.fault.Stop.{Stop}
use Rattle.game.specs.declared.fault.Stop.TheVariants as stop

abbrev pub number_of : Reason → ℕ
number_of reason.Length = 1
number_of reason.Kind = 2
number_of reason.Unused = 3
number_of reason.Range = 4
number_of reason.Crowded = 6
number_of reason.Count = 8
number_of reason.Shape = 11
number_of reason.Entry = 12
number_of reason.NoStart = 14
number_of reason.NoBoard = 20
number_of reason.NoRow = 21
number_of reason.NotAGoal = 22
number_of reason.NotEarlier = 23
number_of reason.NotKnown = 24
number_of reason.NoSuchGoal = 30
number_of reason.NotSettled = 31
number_of reason.AllSettled = 32
number_of reason.NoSuchState = 33
number_of reason.NotStrategic = 34
number_of reason.NoSheet = 35
number_of reason.Denied = 36
number_of reason.Granted = 37
number_of reason.NotAllowed = 38
number_of reason.PlaysUnderWay = 39
number_of reason.TooManyPlays = 40
number_of reason.NoPlay = 41
number_of reason.TooManySteps = 42
number_of reason.AlreadyMet = 43

-- The layer that finds it.
abbrev pub layer_of : Reason → Layer
layer_of reason.Length = layer.Word
layer_of reason.Kind = layer.Word
layer_of reason.Unused = layer.Word
layer_of reason.Range = layer.Record
layer_of reason.Crowded = layer.System
layer_of reason.Count = layer.System
layer_of reason.Shape = layer.System
layer_of reason.Entry = layer.System
layer_of reason.NoStart = layer.System
layer_of _ = layer.Case

abbrev pub letter : Layer → List ℕ
letter layer.Word = codes "W"
letter layer.Record = codes "R"
letter layer.System = codes "S"
letter layer.Case = codes "C"

-- refused number layer place
abbrev pub fault_text : Fault → List ℕ
fault_text e = codes "refused " ++ (decimal (number_of e.reason) ++ (codes " " ++ (letter (layer_of e.reason) ++ (codes " " ++ decimal e.place))))

abbrev pub stop_text : Stop → List ℕ
stop_text (stop.Refused e) = fault_text e
stop_text stop.Memory = codes "out of memory"
