-- Streams as flat lists: one after another, and read back.
use Rattle.std.proofs.Common.{◌≡◌, List, [], ◌∷◌, ◌++◌, Bool, refl, sym, ap, ◌∙◌}
use Rattle.std.specs.Bool.{Decides}
use Rattle.std.proofs.lemmas.List.{append_assoc}
use Rattle.spec_meaning.specs.Stream as stream
use Rattle.spec_meaning.specs.Stream.{Stream, followed}
use Rattle.xt_tree.proofs.Streams.{followed-Ended}
use Rattle.xt_questions.specs.Piece.{Piece, Element, Nameless, Attribute, Namespace, Text, Comment, Instruction, Message, Hole, End, pieces_of}

-- a content, and what stands behind it, in the list that goes on
around : (p : Piece) (content rest more : List Piece) {behind : List Piece} → behind ≡ rest ++ more → p ∷ content ++ End ∷ behind ≡ (p ∷ content ++ End ∷ rest) ++ more
around p content rest more e = ap (λ b. p ∷ content ++ End ∷ b) e ∙ ap (λ b. p ∷ b) (sym (append_assoc content (End ∷ rest) more))

pub pieces-followed : (s t : Stream) → pieces_of (followed s t) ≡ pieces_of s ++ pieces_of t
pieces-followed stream.Ended t = refl
pieces-followed (stream.Element name uri namespaces content rest) t = around (Element name uri namespaces) (pieces_of content) (pieces_of rest) (pieces_of t) (pieces-followed rest t)
pieces-followed (stream.Nameless content rest) t = around Nameless (pieces_of content) (pieces_of rest) (pieces_of t) (pieces-followed rest t)
pieces-followed (stream.Attribute name uri content rest) t = around (Attribute name uri) (pieces_of content) (pieces_of rest) (pieces_of t) (pieces-followed rest t)
pieces-followed (stream.Namespace prefix uri rest) t = ap (λ ps. Namespace prefix uri ∷ ps) (pieces-followed rest t)
pieces-followed (stream.Text text rest) t = ap (λ ps. Text text ∷ ps) (pieces-followed rest t)
pieces-followed (stream.Comment content rest) t = around Comment (pieces_of content) (pieces_of rest) (pieces_of t) (pieces-followed rest t)
pieces-followed (stream.Instruction target content rest) t = around (Instruction target) (pieces_of content) (pieces_of rest) (pieces_of t) (pieces-followed rest t)
pieces-followed (stream.Message content rest) t = around Message (pieces_of content) (pieces_of rest) (pieces_of t) (pieces-followed rest t)
pieces-followed (stream.Hole rest) t = ap (λ ps. Hole ∷ ps) (pieces-followed rest t)

-- read from the right: an end opens a stream, and what an item begins with closes its content
abbrev closed : (Stream → Stream → Stream) → List Stream → List Stream
closed item [] = []
closed item (content ∷ []) = []
closed item (content ∷ rest ∷ behind) = item content rest ∷ behind

abbrev before : (Stream → Stream) → List Stream → List Stream
before item [] = []
before item (rest ∷ behind) = item rest ∷ behind

abbrev read_step : Piece → List Stream → List Stream
read_step (Element name uri namespaces) opened = closed (stream.Element name uri namespaces) opened
read_step Nameless opened = closed stream.Nameless opened
read_step (Attribute name uri) opened = closed (stream.Attribute name uri) opened
read_step (Namespace prefix uri) opened = before (stream.Namespace prefix uri) opened
read_step (Text text) opened = before (stream.Text text) opened
read_step Comment opened = closed stream.Comment opened
read_step (Instruction target) opened = closed (stream.Instruction target) opened
read_step Message opened = closed stream.Message opened
read_step Hole opened = before stream.Hole opened
read_step End opened = stream.Ended ∷ opened

abbrev read : List Piece → List Stream → List Stream
read [] opened = opened
read (p ∷ ps) opened = read_step p (read ps opened)

read-append : (ps qs : List Piece) (opened : List Stream) → read (ps ++ qs) opened ≡ read ps (read qs opened)
read-append [] qs opened = refl
read-append (p ∷ ps) qs opened = ap (read_step p) (read-append ps qs opened)

-- a content with its end, and what stands behind it
read_content : (content rest : Stream) (x : Stream) (opened : List Stream)
    → ((y : Stream) (o : List Stream) → read (pieces_of content) (y ∷ o) ≡ followed content y ∷ o) → read (pieces_of rest) (x ∷ opened) ≡ followed rest x ∷ opened
    → read (pieces_of content ++ End ∷ pieces_of rest) (x ∷ opened) ≡ content ∷ followed rest x ∷ opened
read_content content rest x opened h k =
    read-append (pieces_of content) (End ∷ pieces_of rest) (x ∷ opened) ∙ ap (λ o. read (pieces_of content) (stream.Ended ∷ o)) k
    ∙ h stream.Ended (followed rest x ∷ opened) ∙ ap (λ c. c ∷ followed rest x ∷ opened) (followed-Ended content)

read_back : (s x : Stream) (opened : List Stream) → read (pieces_of s) (x ∷ opened) ≡ followed s x ∷ opened
read_back stream.Ended x opened = refl
read_back (stream.Element name uri namespaces content rest) x opened =
    ap (closed (stream.Element name uri namespaces)) (read_content content rest x opened (read_back content) (read_back rest x opened))
read_back (stream.Nameless content rest) x opened = ap (closed stream.Nameless) (read_content content rest x opened (read_back content) (read_back rest x opened))
read_back (stream.Attribute name uri content rest) x opened =
    ap (closed (stream.Attribute name uri)) (read_content content rest x opened (read_back content) (read_back rest x opened))
read_back (stream.Namespace prefix uri rest) x opened = ap (before (stream.Namespace prefix uri)) (read_back rest x opened)
read_back (stream.Text text rest) x opened = ap (before (stream.Text text)) (read_back rest x opened)
read_back (stream.Comment content rest) x opened = ap (closed stream.Comment) (read_content content rest x opened (read_back content) (read_back rest x opened))
read_back (stream.Instruction target content rest) x opened =
    ap (closed (stream.Instruction target)) (read_content content rest x opened (read_back content) (read_back rest x opened))
read_back (stream.Message content rest) x opened = ap (closed stream.Message) (read_content content rest x opened (read_back content) (read_back rest x opened))
read_back (stream.Hole rest) x opened = ap (before stream.Hole) (read_back rest x opened)

abbrev first : List Stream → Stream
first [] = stream.Ended
first (s ∷ opened) = s

pub one_stream : (s t : Stream) → pieces_of s ≡ pieces_of t → s ≡ t
one_stream s t e =
    sym (followed-Ended s) ∙ ap first (sym (read_back s stream.Ended []) ∙ ap (λ ps. read ps (stream.Ended ∷ [])) e ∙ read_back t stream.Ended [])
    ∙ followed-Ended t

-- what decides the one decides the other
pub same_pieces : (b : Bool) (ps qs : List Piece) (s t : Stream) → Decides b (ps ≡ qs) → ps ≡ pieces_of s → qs ≡ pieces_of t → Decides b (s ≡ t)
same_pieces b ps qs s t d e f = (λ h. one_stream s t (sym e ∙ d.0 h ∙ f), λ k. d.1 (e ∙ ap pieces_of k ∙ sym f))
