-- What a command's word asks.
use Rattle.std.proofs.Common.{◌≡◌, ℕ, true, false, List, Option, Result, Err, refl, sym, ap, ◌∙◌, subst}
use Rattle.std.specs.Prelude.{codes}
use Rattle.std.specs.Char.{is_ascii}
use Rattle.std.specs.List.{list_all}
use Rattle.std.specs.Str.{IsUtf8, is_utf8, chars}
use Rattle.spec_session.specs.Request.{words_of, request_by, request_of}
use Rattle.xt_wire.specs.declared.command.Command.{Command}
use Rattle.xt_wire.specs.declared.fault.WireFault.{WireFault}
use Rattle.xt_wire.specs.View.{Reads}
use Rattle.xt_wire.proofs.Texts.{ascii_chars, is_other}

-- where the first word is this one, the rest is read as it says
pub reads_as : (word taken : List ℕ) (rest : Option (List ℕ)) (body : List (List ℕ)) (r : Result Command WireFault) → list_all is_ascii taken ≡ true
    → word ≡ taken → Reads r (request_by (record { first = taken; rest = rest }) body) → Reads r (request_by (record { first = chars word; rest = rest }) body)
reads_as word taken rest body r small e reads =
    subst (λ (first : List ℕ). Reads r (request_by (record { first = first; rest = rest }) body)) (sym (ap chars e ∙ ascii_chars taken small)) reads

-- the word is none of those that are taken
pub record IsNoCommand (word : List ℕ) : Type 0 where
  pub not_source : word ≡ codes "source" → ⊥
  pub not_module : word ≡ codes "module" → ⊥
  pub not_show : word ≡ codes "show" → ⊥
  pub not_dump : word ≡ codes "dump" → ⊥
  pub not_write : word ≡ codes "write" → ⊥
  pub not_param : word ≡ codes "param" → ⊥
  pub not_messages : word ≡ codes "messages" → ⊥
  pub not_stats : word ≡ codes "stats" → ⊥
  pub not_begin : word ≡ codes "begin" → ⊥
  pub not_commit : word ≡ codes "commit" → ⊥
  pub not_abandon : word ≡ codes "abandon" → ⊥
  pub not_insert : word ≡ codes "insert" → ⊥
  pub not_delete : word ≡ codes "delete" → ⊥
  pub not_text : word ≡ codes "text" → ⊥
  pub not_attr : word ≡ codes "attr" → ⊥
  pub not_unattr : word ≡ codes "unattr" → ⊥
  pub not_rename : word ≡ codes "rename" → ⊥
  pub not_move : word ≡ codes "move" → ⊥
  pub not_drop : word ≡ codes "drop" → ⊥
  pub not_quit : word ≡ codes "quit" → ⊥

pub not_asked : (word : List ℕ) (rest : Option (List ℕ)) (body : List (List ℕ)) → IsUtf8 word → IsNoCommand word
    → request_by (record { first = chars word; rest = rest }) body ≡ Err 3
not_asked word rest body u n = rw (
  is_other word (codes "source") u refl n.not_source,
  is_other word (codes "module") u refl n.not_module,
  is_other word (codes "show") u refl n.not_show,
  is_other word (codes "dump") u refl n.not_dump,
  is_other word (codes "write") u refl n.not_write,
  is_other word (codes "param") u refl n.not_param,
  is_other word (codes "messages") u refl n.not_messages,
  is_other word (codes "stats") u refl n.not_stats,
  is_other word (codes "begin") u refl n.not_begin,
  is_other word (codes "commit") u refl n.not_commit,
  is_other word (codes "abandon") u refl n.not_abandon,
  is_other word (codes "insert") u refl n.not_insert,
  is_other word (codes "delete") u refl n.not_delete,
  is_other word (codes "text") u refl n.not_text,
  is_other word (codes "attr") u refl n.not_attr,
  is_other word (codes "unattr") u refl n.not_unattr,
  is_other word (codes "rename") u refl n.not_rename,
  is_other word (codes "move") u refl n.not_move,
  is_other word (codes "drop") u refl n.not_drop,
  is_other word (codes "quit") u refl n.not_quit,
) refl

pub line_no_text : (line : List ℕ) (body : List (List ℕ)) → is_utf8 line ≡ false → request_of (record { line = line; body = body }) ≡ Err 2
line_no_text line body h = rw h refl

pub body_no_text : (line : List ℕ) (body : List (List ℕ)) → is_utf8 line ≡ true → list_all is_utf8 body ≡ false
    → request_of (record { line = line; body = body }) ≡ Err 2
body_no_text line body h b = rw (h, b) refl

pub all_text : (line : List ℕ) (body : List (List ℕ)) → is_utf8 line ≡ true → list_all is_utf8 body ≡ true
    → request_of (record { line = line; body = body }) ≡ request_by (words_of (chars line)) body
all_text line body h b = rw (h, b) refl
