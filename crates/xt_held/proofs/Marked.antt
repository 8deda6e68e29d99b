-- What was answered is so after each kind of change.
use Rattle.std.proofs.Common.{◌≡◌, ℕ, List, [], ◌∷◌, Option, None, Some, ap, refl, sym, subst, ◌∙◌}
use Rattle.spec_document.specs.Forest.{Document, Plain}
use Rattle.spec_document.specs.Name.{Expanded}
use Rattle.spec_stylesheet.specs.Place.{Place}
use Rattle.spec_stylesheet.specs.Sheet as plain
use Rattle.spec_stylesheet.specs.declared.method.Method.{Method}
use Rattle.spec_seen.specs.Seen.{seen}
use Rattle.spec_structure.specs.Modules.{Modules}
use Rattle.spec_meaning.specs.Question.{Question, Choice, Unit}
use Rattle.spec_run.specs.Documents.{Parameters, main_name}
use Rattle.spec_edit.specs.Edit as spec
use Rattle.spec_change.specs.Change.{Change, IsEdit, change_of}
use Rattle.spec_move.specs.Changed.{MoveChange, IsMove, move_change}
use Rattle.spec_node.specs.declared.node_ref.NodeRef.{NodeRef}
use Rattle.spec_touch.specs.Leads.{AreLooseBelow, Leads, seen_change}
use Rattle.spec_touch.specs.Marks.{KeepsPlain, KeepsUnits, SourceEdited, SourceMoved, ModulesChanged, ParameterGiven, Anything, WorldChange, answers}
use Rattle.spec_touch.specs.Plain.{AreAsking}
use Rattle.xt_touch.specs.View.{remembered}
use Rattle.spec_items.specs.Liftable.{with_items}
use Rattle.xt_syntax.specs.SheetView.{rules_of, space_rules_of}
use Rattle.xt_syntax.specs.declared.space_rules.SpaceRules.{SpaceRules}
use Rattle.xt_own.specs.View.{OwnDecides}
use Rattle.xt_world.specs.Numbered.{element_called}
use Rattle.xt_world.specs.ParameterView.{with_value}
use Rattle.xt_world.specs.View.{truth_in}
use Rattle.xt_world.specs.declared.stylesheet.Stylesheet as world
use Rattle.xt_tree.specs.Numbers.{IsNumbered}
use Rattle.xt_held.specs.Alike.{ChooseAlike, HaveUnitsAlike}
use Rattle.xt_held.specs.RunView.{Agreed, Agrees, AnswersAsSome, Ask, IfRun, IfSheet, IsFaultless, SeesAll, StaysSpared, truth_seen}
use Rattle.xt_held.specs.StylesheetView.{AnswersAs, AreCompiled, AreCompiledBy, IsCompiledFrom}
use Rattle.xt_held.specs.View.{IsCurrent, IsKnown}
use Rattle.xt_held.specs.declared.held.Held.{Held}
use Rattle.xt_held.specs.declared.stylesheet.Compiled.{Compiled}
use Rattle.xt_held.specs.declared.stylesheet.Compiled.TheVariants.{Stylesheet, Refused}
use Rattle.xt_held.proofs.Sparing.{Answering, KeepingSpace, Leading, agrees_after, alike, edit_comes, leads_so, modules_come, move_comes, none_agree}
use Rattle.xt_held.proofs.Sparing.{none_keep, seen_whole, sheet_lost, sheet_stays, sound_of, value_comes, world_of}

-- ---- What modules are answers as some stylesheet does

answers_by : (modules : Modules) (compiled : Compiled) → IsCompiledFrom modules compiled → AnswersAsSome (Some compiled)
answers_by modules (Refused why) h = tt
answers_by modules (Stylesheet held rules method) h = (with_items h.holds.0, h.holds.2)

answers_among : (modules : Modules) (main : Option Plain) (compiled : Option Compiled) → AreCompiledBy modules main compiled → AnswersAsSome compiled
answers_among modules main None h = tt
answers_among modules None (Some compiled) h = absurd h
answers_among modules (Some main) (Some compiled) h = answers_by modules compiled h

pub answers_as_some : (modules : Modules) (compiled : Option Compiled) → AreCompiled modules compiled → AnswersAsSome compiled
answers_as_some modules compiled h = answers_among modules (modules main_name) compiled h.so

pub known_of : (held : Held) → IsCurrent held → IsKnown held
known_of held h = record { last = h.serves }

-- the world of a stylesheet, of which it holds what is answered
abbrev named_by : (held : world.Stylesheet) (sheet : plain.Sheet) → AnswersAs held sheet → Place → NodeRef
named_by held sheet h = element_called h.numbers

answers_so : (held : world.Stylesheet) (sheet : plain.Sheet) (h : AnswersAs held sheet) (parameters : Parameters) (document : Document ℕ) (q : Question NodeRef)
    → truth_in held parameters document q ≡ answers (world_of sheet (named_by held sheet h) parameters document) q
answers_so held sheet h parameters document q = h.truth parameters document q

-- ---- Where anything may be another

all_marked : (was : Ask) (compiled : Option Compiled) (parameters : Parameters) (source : Option (Document ℕ))
    → IfRun (λ ask. Agrees was ask (Anything ∷ [])) compiled parameters source
all_marked was None parameters source = tt
all_marked was (Some (Refused why)) parameters source = tt
all_marked was (Some (Stylesheet held rules method)) parameters None = tt
all_marked was (Some (Stylesheet held rules method)) parameters (Some source) = none_agree was (truth_seen held rules parameters source)

pub anything_stays : (old new : Option Compiled) (before after : Parameters) (was is : Option (Document ℕ)) (changes next : List WorldChange)
    → next ≡ Anything ∷ [] → StaysSpared old new before after was is changes next
anything_stays old new before after was is changes next e = λ answered own answers others h.
    record {
      agrees = subst (λ (cs : List WorldChange). IfRun (λ ask. Agrees answered ask cs) new after is) (sym e) (all_marked answered new after is);
      own = none_keep next (IfSheet (λ held. OwnDecides held answered own) new) e;
    }

-- where nothing changes
pub same_stays : (known : Option Compiled) (parameters : Parameters) (source : Option (Document ℕ)) (changes next : List WorldChange) → next ≡ changes
    → StaysSpared known known parameters parameters source source changes next
same_stays known parameters source changes next e = λ answered own answers others h.
    subst (λ (cs : List WorldChange). Agreed answered own known parameters source cs) (sym e) h

-- ---- After an edit of the source, and after a move in it

pub edit_stays : Answering → Leading → KeepingSpace → (held : world.Stylesheet) (rules : SpaceRules) (method : Option (Method Expanded))
    (parameters : Parameters) (edit : spec.Edit) (old new : Document ℕ) → IsFaultless old → IsNumbered old → IsEdit edit old new
    → (told change : Change) → change_of edit old new ≡ Some told
    → (Leads (seen_change told (seen (space_rules_of rules).rules old) (seen (space_rules_of rules).rules new)) (seen (space_rules_of rules).rules old)
    (seen (space_rules_of rules).rules new)
    → change ≡ seen_change told (seen (space_rules_of rules).rules old) (seen (space_rules_of rules).rules new))
    → (asking : List (Option Expanded)) → AreAsking asking (rules_of held.rules).rules
    → (loose : List ℕ) → AreLooseBelow loose told.node (seen (space_rules_of rules).rules new)
    → (changes next : List WorldChange) → next ≡ remembered changes (SourceEdited change asking loose)
    → StaysSpared (Some (Stylesheet held rules method)) (Some (Stylesheet held rules method)) parameters parameters (Some old) (Some new) changes next
edit_stays answering leading keeping held rules method parameters edit old new faultless numbers q told change is seen_so asking asks loose free changes next e =
    λ answered own answers others h.
    let sight = (space_rules_of rules).rules in
    let sheet = answers.0 in
    let called = named_by held sheet answers.1 in
    let sound = sound_of old numbers faultless in
    let made = seen_change told (seen sight old) (seen sight new) in
    let same : change ≡ made = seen_so (leads_so leading keeping sight edit old new q sound told is) in
    let comes = edit_comes sheet called parameters sight asking edit old new sound q told is
    (subst (λ (rs : plain.Rules). AreAsking asking rs.rules) answers.1.rules asks) loose free in
    let before = truth_seen held rules parameters old in
    let after = truth_seen held rules parameters new in
    let is_next : next ≡ remembered changes (SourceEdited made asking loose) = e ∙ ap (λ (c : Change). remembered changes (SourceEdited c asking loose)) same in
    record {
      agrees = subst (λ (cs : List WorldChange). Agrees answered after cs) (sym is_next)
          (agrees_after changes (SourceEdited made asking loose) answered before after
          (alike answering (SourceEdited made asking loose) (world_of sheet called parameters (seen sight old)) (world_of sheet called parameters (seen sight new))
          comes before after (answers_so held sheet answers.1 parameters (seen sight old)) (answers_so held sheet answers.1 parameters (seen sight new))) h.agrees);
      own = sheet_stays changes next (SourceEdited made asking loose) (OwnDecides held answered own) is_next h.own;
    }

pub move_stays : Answering → (held : world.Stylesheet) (rules : SpaceRules) (method : Option (Method Expanded)) (parameters : Parameters)
    (path other : List ℕ) (old new : Document ℕ) → SeesAll rules → IsFaultless old → IsNumbered old → IsMove path other old new
    → (change : MoveChange) → move_change path other old new ≡ Some change
    → (asking : List (Option Expanded)) → AreAsking asking (rules_of held.rules).rules
    → (changes next : List WorldChange) → next ≡ remembered changes (SourceMoved change asking)
    → StaysSpared (Some (Stylesheet held rules method)) (Some (Stylesheet held rules method)) parameters parameters (Some old) (Some new) changes next
move_stays answering held rules method parameters path other old new all faultless numbers q change is asking asks changes next e =
    λ answered own answers others h.
    let sight = (space_rules_of rules).rules in
    let sheet = answers.0 in
    let called = named_by held sheet answers.1 in
    let comes = move_comes sheet called parameters asking path other old new (sound_of old numbers faultless) q change is
    (subst (λ (rs : plain.Rules). AreAsking asking rs.rules) answers.1.rules asks) in
    let before = truth_in held parameters old in
    let after = truth_in held parameters new in
    let moved = agrees_after changes (SourceMoved change asking) answered before after
    (alike answering (SourceMoved change asking) (world_of sheet called parameters old) (world_of sheet called parameters new)
    comes before after (answers_so held sheet answers.1 parameters old) (answers_so held sheet answers.1 parameters new))
    (subst (λ (d : Document ℕ). Agrees answered (truth_in held parameters d) changes) (seen_whole sight old all) h.agrees) in
    record {
      agrees = subst (λ (cs : List WorldChange). Agrees answered (truth_seen held rules parameters new) cs) (sym e)
          (subst (λ (d : Document ℕ). Agrees answered (truth_in held parameters d) (remembered changes (SourceMoved change asking)))
          (sym (seen_whole sight new all)) moved);
      own = sheet_stays changes next (SourceMoved change asking) (OwnDecides held answered own) e h.own;
    }

-- ---- After a change of modules

pub modules_stay : Answering → (held other : world.Stylesheet) (rules others : SpaceRules) (method another : Option (Method Expanded)) (parameters : Parameters)
    (source : Option (Document ℕ)) → space_rules_of others ≡ space_rules_of rules → (units : List NodeRef) (asking : Option (List (Option Expanded)))
    → HaveUnitsAlike held other units → ChooseAlike held other asking
    → (changes next : List WorldChange) → next ≡ remembered changes (ModulesChanged units asking)
    → StaysSpared (Some (Stylesheet held rules method)) (Some (Stylesheet other others another)) parameters parameters source source changes next
modules_stay answering held other rules others method another parameters None see units asking kept choosing changes next e = λ answered own was is h.
    record { agrees = tt; own = sheet_lost changes next (ModulesChanged units asking) (OwnDecides other answered own) e refl }
modules_stay answering held other rules others method another parameters (Some source) see units asking kept choosing changes next e = λ answered own was is h.
    let old = seen (space_rules_of rules).rules source in
    let new = seen (space_rules_of others).rules source in
    let same : new ≡ old = ap (λ (rs : plain.SpaceRules). seen rs.rules source) see in
    let before = world_of was.0 (named_by held was.0 was.1) parameters old in
    let after = world_of is.0 (named_by other is.0 is.1) parameters new in
    let units_kept : KeepsUnits units before after = λ element m.
    sym (answers_so held was.0 was.1 parameters old (Unit element)) ∙ kept element m ∙ answers_so other is.0 is.1 parameters new (Unit element) in
    let choices_kept : KeepsPlain asking before after = λ node mode candidates m.
    let q = Choice node mode candidates in
    sym (answers_so held was.0 was.1 parameters old q) ∙ choosing parameters old node mode candidates m
    ∙ ap (λ (d : Document ℕ). truth_in other parameters d q) (sym same) ∙ answers_so other is.0 is.1 parameters new q in
    let comes = modules_come was.0 is.0 (named_by held was.0 was.1) (named_by other is.0 is.1) parameters old new same units asking units_kept choices_kept in
    record {
      agrees = subst (λ (cs : List WorldChange). Agrees answered (truth_in other parameters new) cs) (sym e)
          (agrees_after changes (ModulesChanged units asking) answered (truth_in held parameters old) (truth_in other parameters new)
          (alike answering (ModulesChanged units asking) before after comes (truth_in held parameters old) (truth_in other parameters new)
          (answers_so held was.0 was.1 parameters old) (answers_so other is.0 is.1 parameters new)) h.agrees);
      own = sheet_lost changes next (ModulesChanged units asking) (OwnDecides other answered own) e refl;
    }

-- ---- After a parameter is given another value

pub value_stays : Answering → (name : List ℕ) (known : Option Compiled) (parameters : Parameters) (value : List ℕ) (source : Option (Document ℕ))
    (changes next : List WorldChange) → next ≡ remembered changes (ParameterGiven name)
    → StaysSpared known known parameters (with_value name value parameters) source source changes next
value_stays answering name None parameters value source changes next e = λ answered own answers others h.
    record { agrees = tt; own = λ keeps. tt }
value_stays answering name (Some (Refused why)) parameters value source changes next e = λ answered own answers others h.
    record { agrees = tt; own = λ keeps. tt }
value_stays answering name (Some (Stylesheet held rules method)) parameters value None changes next e = λ answered own answers others h.
    record { agrees = tt; own = sheet_stays changes next (ParameterGiven name) (OwnDecides held answered own) e h.own }
value_stays answering name (Some (Stylesheet held rules method)) parameters value (Some source) changes next e = λ answered own answers others h.
    let sheet = answers.0 in
    let called = named_by held sheet answers.1 in
    let sight = seen (space_rules_of rules).rules source in
    let given = with_value name value parameters in
    record {
      agrees = subst (λ (cs : List WorldChange). Agrees answered (truth_in held given sight) cs) (sym e)
          (agrees_after changes (ParameterGiven name) answered (truth_in held parameters sight) (truth_in held given sight)
          (alike answering (ParameterGiven name) (world_of sheet called parameters sight) (world_of sheet called given sight)
          (value_comes sheet called parameters name value sight) (truth_in held parameters sight) (truth_in held given sight)
          (answers_so held sheet answers.1 parameters sight) (answers_so held sheet answers.1 given sight)) h.agrees);
      own = sheet_stays changes next (ParameterGiven name) (OwnDecides held answered own) e h.own;
    }
