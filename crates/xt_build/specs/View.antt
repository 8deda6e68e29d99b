-- What the types of this crate stand for.
use Rattle.std.specs.Prelude.{ℕ, ◌≡◌, true, false, List, [], map, Option, None, Some, Result, Ok, Err}
use Rattle.std.specs.Str.{is_utf8, chars}
use Rattle.std.specs.declared.vec.Vec.{Vec}
use Rattle.std.specs.declared.alloc.Global.{Global}
use Rattle.std.specs.Option.{option_map}
use Rattle.spec_document.specs.declared.event.Event.{Event}
use Rattle.spec_document.specs.Forest.{Forest, Document}
use Rattle.spec_document.specs.Pyx.{event_of}
use Rattle.spec_document.specs.Fault.{Fault, least, answer_of}
use Rattle.spec_document.specs.Body.{line_faults, events_at, is_bad}
use Rattle.spec_document.specs.Balance.{forest_of}
use Rattle.spec_document.specs.Document.{made_of}
use Rattle.xt_text.specs.declared.memory.Memory.{Memory}
use Rattle.xt_base.specs.Code.{edit_number}
use Rattle.xt_build.specs.declared.document.Built.{Built}
use Rattle.xt_build.specs.declared.document.BuiltNodes.{BuiltNodes}
use Rattle.xt_build.specs.declared.fault.BuildFault.{BuildFault}
use Rattle.xt_build.specs.declared.fault.BuildFault.TheVariants as variant
use Rattle.xt_build.specs.declared.fault.Fault.{Fault as Found}
use Rattle.xt_build.specs.declared.read.Located.{Located}
use Rattle.xt_build.specs.declared.read.ReadLine.{ReadLine}
use Rattle.xt_build.specs.declared.read.ReadLine.TheVariants as read
use Rattle.xt_build.specs.declared.piece.Piece.{Piece}
use Rattle.xt_build.specs.declared.piece.Piece.TheVariants as code
use Rattle.xt_build.specs.Piece as spec
use Rattle.xt_tree.specs.View.{content_of}

abbrev pub fault_of : Found → Fault
fault_of f = record { number = edit_number f.code; line = f.line }

abbrev pub found_of : Option Found → Option Fault
found_of found = option_map fault_of found

-- what is built is the defined answer, or its fault is. Want of memory is free
abbrev pub Builds : {B A : Type 0} → (B → A) → Result B BuildFault → Result A Fault → Type 0
Builds value_in (Ok built) answer = answer ≡ Ok (value_in built)
Builds value_in (Err variant.Memory) answer = Unit {0}
Builds value_in (Err (variant.Refused finding)) answer = answer ≡ Err (fault_of finding)

abbrev pub document_in : Built → Document ℕ
document_in built = built.document

abbrev pub nodes_in : BuiltNodes → Forest ℕ
nodes_in built = built.nodes

-- an event with its line
abbrev pub located_of : Located → ℕ × Event (List ℕ)
located_of l = (l.line, l.event)

abbrev pub piece_of : Piece → spec.Piece
piece_of (code.Begins line attribute_lines content) = spec.Begins (record { first = line; attributes = attribute_lines.items }) (content_of content)
piece_of code.Ends = spec.Ends

abbrev pub pieces_of : List Piece → List spec.Piece
pieces_of pieces = map piece_of pieces

-- the events of a body, or the least fault of its lines
abbrev pub ReadsEvents : List (List ℕ) → Result (Vec Located Global) BuildFault → Type 0
ReadsEvents body (Ok events) = (least (line_faults body) ≡ None) × (map located_of events.items ≡ events_at body)
ReadsEvents body (Err variant.Memory) = Unit {0}
ReadsEvents body (Err (variant.Refused fault)) = least (line_faults body) ≡ Some (fault_of fault)

-- what a line of these bytes is read as
abbrev pub IsReadOf : List ℕ → Result ReadLine Memory → Type 0
IsReadOf bytes (Err memory) = Unit {0}
IsReadOf bytes (Ok read.NotUtf8) = is_utf8 bytes ≡ false
IsReadOf bytes (Ok read.Empty) = bytes ≡ []
IsReadOf bytes (Ok (read.Event event)) = (is_utf8 bytes ≡ true) × (event_of (chars bytes) ≡ Some event)
IsReadOf bytes (Ok read.Bad) = (is_utf8 bytes ≡ true) × (is_bad (chars bytes) ≡ true)

-- the pieces of a body, or what is answered where no forest is to be made of it
abbrev pub ReadsPieces : List (List ℕ) → Result (Vec Piece Global) BuildFault → Type 0
ReadsPieces body (Ok pieces) =
    (least (line_faults body) ≡ None) × (forest_of (events_at body) ≡ Some (spec.forest_in (pieces_of pieces.items)))
    × spec.IsWhole (pieces_of pieces.items)
ReadsPieces body (Err variant.Memory) = Unit {0}
ReadsPieces body (Err (variant.Refused fault)) = answer_of (line_faults body) (made_of Ok (events_at body)) ≡ Err (fault_of fault)
