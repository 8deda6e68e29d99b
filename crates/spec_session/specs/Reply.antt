-- Replies and their bytes.
use Rattle.std.specs.Prelude.{ℕ, List, [], ◌∷◌, ◌++◌, length, codes, decimal, None, Some}
use Rattle.std.specs.List.{flat_map}
use Rattle.std.specs.Str.{encode_utf8_all}
use Rattle.spec_document.specs.Pyx.{Line}
use Rattle.spec_expression.specs.Code.{code_text}
use Rattle.spec_stylesheet.specs.Place.{Place}
use Rattle.spec_run.specs.Outcome.{Refusal}

pub data Reply : Type 0 where
  -- to an accepted change: the transformation has a result, or is refused
  OkDone : Reply
  OkRefused : (why : Refusal) → Reply
  -- to a change that is accepted in a batch, and to one that opens it; and where a batch is dropped
  OkPending : Reply
  OkDropped : Reply
  -- to a request for the result, while the transformation is refused
  Refused : (why : Refusal) → Reply
  -- the lines of a result or a document
  Shown : (lines : List Line) → Reply
  -- the text of a result
  Written : (text : List ℕ) → Reply
  -- how many instantiations were run, how many reads were asked again, and how many instructions were done
  Counted : (ran asked did : ℕ) → Reply
  -- to a refused command
  No : (number : ℕ) → Reply

-- a module and a path in it, as `main/1/2`, or `-`
abbrev pub place_text : Place → List ℕ
place_text place = elim place.module_name [
  | None ↦ codes "-"
  | Some name ↦ name ++ flat_map (λ position. 0x2F ∷ decimal position) place.path
]

abbrev pub refusal_text : Refusal → List ℕ
refusal_text why = code_text why.code ++ 0x20 ∷ place_text why.place

-- the lines of a reply. A text stands behind the number of its bytes, as it is: an LF in it is no end of a line
abbrev pub reply_lines : Reply → List Line
reply_lines OkDone = codes "ok done" ∷ []
reply_lines (OkRefused why) = (codes "ok refused " ++ refusal_text why) ∷ []
reply_lines OkPending = codes "ok pending" ∷ []
reply_lines OkDropped = codes "ok dropped" ∷ []
reply_lines (Refused why) = (codes "refused " ++ refusal_text why) ∷ []
reply_lines (Shown lines) = lines ++ codes "." ∷ []
reply_lines (Written text) = (codes "text " ++ decimal (length (encode_utf8_all text))) ∷ text ∷ []
reply_lines (Counted ran asked did) = (codes "ran " ++ decimal ran ++ codes " asked " ++ decimal asked ++ codes " did " ++ decimal did) ∷ []
reply_lines (No number) = (codes "no " ++ decimal number) ∷ []

-- each line ends with an LF
abbrev pub with_newline : Line → List ℕ
with_newline line = line ++ 0xA ∷ []

-- the text of a reply, and its bytes in UTF-8
abbrev pub reply_text : Reply → List ℕ
reply_text reply = flat_map with_newline (reply_lines reply)

abbrev pub reply_bytes : Reply → List ℕ
reply_bytes reply = encode_utf8_all (reply_text reply)
