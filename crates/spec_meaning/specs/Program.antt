-- Programs that ask: what is asked next may depend on the answers so far. The meaning of whatever asks a world is such a program.
use Rattle.std.specs.Prelude.{◌≡◌, ℕ, List, [], ◌∷◌, ◌++◌, Option, None, Some}
use Rattle.spec_document.specs.Name.{Expanded}
use Rattle.spec_meaning.specs.Value.{Value}
use Rattle.spec_meaning.specs.Value as value
use Rattle.spec_meaning.specs.Question.{Question, Answer, Refusal}

-- the current template rule (XSLT 1.0, section 5.6): its mode, and what its stylesheet imports, which are the import precedences from the first
-- on and below the last
pub record CurrentRule : Type 0 where
  pub mode : Option Expanded
  pub first : ℕ
  pub last : ℕ

-- what is needed of the run and not of the world: position and size, where the context is that of an instantiation itself, the current
-- template rule, and the values of globals
pub data Wanted : Type 0 where
  Position : Wanted
  Size : Wanted
  Rule : Wanted
  Global : (name : Expanded) → Wanted

pub data Given (N : Type 0) : Type 0 where
  Counted : (number : ℕ) → Given N
  Ruled : (rule : Option CurrentRule) → Given N
  Valued : (value : Value N) → Given N

abbrev pub count_in : {N : Type 0} → Given N → ℕ
count_in (Counted number) = number
count_in (Ruled rule) = 0
count_in (Valued value) = 0

-- none where there is no current rule
abbrev pub current_in : {N : Type 0} → Given N → Option CurrentRule
current_in (Counted number) = None
current_in (Ruled rule) = rule
current_in (Valued value) = None

abbrev pub value_in : {N : Type 0} → Given N → Value N
value_in (Counted number) = value.Text []
value_in (Ruled rule) = value.Text []
value_in (Valued value) = value

-- a program ends with a value or a refusal, asks the world, or needs something of the run; from an answer it goes on
pub data Program (N : Type 0) (A : Type 0) : Type 0 where
  Give : (value : A) → Program N A
  Refuse : (why : Refusal) → Program N A
  Ask : (question : Question N) → (next : Answer N → Program N A) → Program N A
  Need : (wanted : Wanted) → (next : Given N → Program N A) → Program N A

-- the first, and then what the second makes of its value
unfoldable pub then : {N A B : Type 0} → Program N A → (A → Program N B) → Program N B
then (Give v) k = k v
then (Refuse w) k = Refuse w
then (Ask q next) k = Ask q (λ a. then (next a) k)
then (Need w next) k = Need w (λ g. then (next g) k)

infixl 10 ◌>>=◌
abbrev pub ◌>>=◌ : {N A B : Type 0} → Program N A → (A → Program N B) → Program N B
p >>= k = then p k

-- what was read: a question with its answer; or what was needed, in a content so deep below the level of its instantiation, with what
-- was given
pub data Read (N : Type 0) : Type 0 where
  Asked : (question : Question N) → (answer : Answer N) → Read N
  Saw : (wanted : Wanted) → (depth : ℕ) → (given : Given N) → Read N

-- what is true in a world, and what was read there, where the world keeps it
pub record State (N : Type 0) : Type 0 where
  pub truth : Question N → Answer N
  pub reads : Option (List (Read N))

-- the reads with these after them, where the world keeps them
abbrev pub with_reads : {N : Type 0} → List (Read N) → Option (List (Read N)) → Option (List (Read N))
with_reads more None = None
with_reads more (Some rs) = Some (rs ++ more)

abbrev pub with_read : {N : Type 0} → Read N → Option (List (Read N)) → Option (List (Read N))
with_read r None = None
with_read r (Some rs) = Some (rs ++ r ∷ [])

abbrev pub noted : {N : Type 0} → Read N → State N → State N
noted r s = record { truth = s.truth; reads = with_read r s.reads }

abbrev pub asked : {N : Type 0} → Question N → State N → State N
asked q s = noted (Asked q (s.truth q)) s

-- how a program ends: with a value, with a refusal, or for lack of something that is not at hand
pub data Said (A : Type 0) : Type 0 where
  Gives : (value : A) → Said A
  Refuses : (why : Refusal) → Said A
  Lacks : (wanted : Wanted) → Said A

-- whether it ends with a value or a refusal
abbrev pub IsEnded : {A : Type 0} → Said A → Type 0
IsEnded (Gives value) = Unit {0}
IsEnded (Refuses why) = Unit {0}
IsEnded (Lacks wanted) = ⊥

pub record Ending (N : Type 0) (A : Type 0) : Type 0 where
  pub said : Said A
  pub state : State N

-- what is at hand of what may be needed
abbrev pub Supply : Type 0 → Type 0
Supply N = Wanted → Option (Given N)

abbrev pub if_given : {N B : Type 0} → (Given N → B) → B → Option (Given N) → B
if_given f b None = b
if_given f b (Some g) = f g

-- a program in a world, with what is at hand, in a content so deep below the level of its instantiation
abbrev pub run : {N A : Type 0} → Supply N → ℕ → Program N A → State N → Ending N A
run supply depth (Give v) s = record { said = Gives v; state = s }
run supply depth (Refuse w) s = record { said = Refuses w; state = s }
run supply depth (Ask q next) s = run supply depth (next (s.truth q)) (asked q s)
run supply depth (Need w next) s =
    if_given (λ g. run supply depth (next g) (noted (Saw w depth g) s)) (record { said = Lacks w; state = s }) (supply w)

-- how a program ends where these are the answers, and what it reads
abbrev pub outcome_of : {N A : Type 0} → (Question N → Answer N) → Supply N → Program N A → Said A
outcome_of ask supply (Give v) = Gives v
outcome_of ask supply (Refuse w) = Refuses w
outcome_of ask supply (Ask q next) = outcome_of ask supply (next (ask q))
outcome_of ask supply (Need w next) = if_given (λ g. outcome_of ask supply (next g)) (Lacks w) (supply w)

abbrev pub reads_of : {N A : Type 0} → (Question N → Answer N) → Supply N → ℕ → Program N A → List (Read N)
reads_of ask supply depth (Give v) = []
reads_of ask supply depth (Refuse w) = []
reads_of ask supply depth (Ask q next) = Asked q (ask q) ∷ reads_of ask supply depth (next (ask q))
reads_of ask supply depth (Need w next) = if_given (λ g. Saw w depth g ∷ reads_of ask supply depth (next g)) [] (supply w)

-- the reads hold: each question has that answer, and what was needed is given so
abbrev pub Holds : {N : Type 0} → (Question N → Answer N) → Supply N → Read N → Type 0
Holds ask supply (Asked q a) = ask q ≡ a
Holds ask supply (Saw w depth g) = supply w ≡ Some g

abbrev pub Hold : {N : Type 0} → (Question N → Answer N) → Supply N → List (Read N) → Type 0
Hold ask supply [] = Unit {0}
Hold ask supply (r ∷ rs) = Holds ask supply r × Hold ask supply rs
