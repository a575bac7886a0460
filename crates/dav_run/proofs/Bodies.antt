-- The bytes that the stores of a run put into their files.
use Rattle.std.proofs.Common.{◌≡◌, ℕ, ◌+◌, ◌<◌, ◌≤◌, max, List, [], ◌∷◌, length, Bool, true, false, nat_eq, if◌then◌else◌, Option, Some, None, refl, sym, ◌∙◌, ap, subst, arith}
use Rattle.std.proofs.lemmas.Bool.Decides.{nat_tests}
use Rattle.std.proofs.Math.Nat.{le-max_left}
use Rattle.dav_store.specs.declared.body_id.BodyId.{BodyId}
use Rattle.dav_index.specs.Tables.{file_above}
use Rattle.dav_index.specs.declared.record.Record.{Record}
use Rattle.dav_index.specs.declared.table.Table.{Table}
use Rattle.dav_deeds.specs.DeskTable.{DeskTable}
use Rattle.dav_deeds.specs.Effects.{Wait, Effect, waited, recorded, changed, after, effect_of}
use Rattle.dav_deeds.specs.Legal.{bytes_in, deed_of, new_body}
use Rattle.dav_deeds.specs.declared.ask.Ask.{Ask}
use Rattle.dav_deeds.specs.declared.deed.Deed.{Deed}
use Rattle.dav_deeds.specs.declared.fault.DeskFault.{DeskFault}
use Rattle.dav_deeds.proofs.AllRows.{body_made, body_next}
use Rattle.dav_desk.specs.Verdict.{Verdict, Went, Stopped, Starved, table_by}
use Rattle.dav_desk.specs.Working.{AreGiven}
use Rattle.dav_upload.specs.Asking.{Asked, table_met}
use Rattle.dav_run.specs.Asked.{GivenBy, AllGiven}

-- no deed takes back a file number

waited_next : (t : Table) (wait : Option Wait) → (waited t wait).next_file ≡ t.next_file
waited_next t None = refl
waited_next t (Some wait) = refl

recorded_next : (t : Table) (r : Option Record) → t.next_file ≤ (recorded t r).next_file
recorded_next t None = omega arith
recorded_next t (Some r) = le-max_left t.next_file (file_above r)

changed_next : (t : DeskTable) (e : Effect) → t.index.next_file ≤ (changed t e).index.next_file
changed_next t e =
    let same : (changed t e).index.next_file ≡ (recorded t.index e.on_record).next_file = waited_next (recorded t.index e.on_record) e.waits in
    let more : t.index.next_file ≤ (recorded t.index e.on_record).next_file = recorded_next t.index e.on_record in
    subst (λ (n : ℕ). t.index.next_file ≤ n) (sym same) more

pub after_next : (t : DeskTable) (now : ℕ) (deed : Deed) → t.index.next_file ≤ (after t now deed).index.next_file
after_next t now deed = changed_next t (effect_of t now deed)

-- these bytes in the file of the new body, if there is one
abbrev pub given_to : Option BodyId → List ℕ → (ℕ → List ℕ) → ℕ → List ℕ
given_to None bytes given file = given file
given_to (Some id) bytes given file = if nat_eq file id.file then bytes else given file

abbrev pub given_with : DeskTable → (ℕ → List ℕ) → Ask → ℕ → List ℕ
given_with t given ask file = given_to (new_body (deed_of t ask)) (bytes_in ask) given file

next_of : (t : DeskTable) (ask : Ask) (id : BodyId) → new_body (deed_of t ask) ≡ Some id → id.file ≡ t.index.next_file
next_of t ask id some = ap (λ (b : BodyId). b.file) (body_made t ask id some)

pub with_before : (t : DeskTable) (given : ℕ → List ℕ) (ask : Ask) (file : ℕ) → file < t.index.next_file → given_with t given ask file ≡ given file
with_before t given ask file early = by (new_body (deed_of t ask)) refl
  where
    by : (new : Option BodyId) → new_body (deed_of t ask) ≡ new → given_to new (bytes_in ask) given file ≡ given file
    by None is = refl
    by (Some id) is =
        let next : id.file ≡ t.index.next_file = next_of t ask id is in
        let off : nat_eq file id.file ≡ false = grind (arith, nat_tests) in ap (λ (b : Bool). if b then bytes_in ask else given file) off

pub with_given : (t : DeskTable) (given : ℕ → List ℕ) (ask : Ask) → AreGiven t (given_with t given ask) ask
with_given t given ask id some =
    let same : nat_eq id.file id.file ≡ true = grind (arith, nat_tests) in
    ap (λ (new : Option BodyId). given_to new (bytes_in ask) given id.file) some ∙ ap (λ (b : Bool). if b then bytes_in ask else given id.file) same

-- the bytes that are given for the file stay so where later ones are in other files
given_on : (t : DeskTable) (now : ℕ) (given bodies : ℕ → List ℕ) (ask : Ask) → ((file : ℕ) → file < (after t now (deed_of t ask)).index.next_file → bodies file ≡ given_with t given ask file) → AreGiven t bodies ask
given_on t now given bodies ask same id some =
    let next : id.file ≡ t.index.next_file = next_of t ask id some in
    let below : t.index.next_file < (after t now (deed_of t ask)).index.next_file = body_next t now ask id some in
    same id.file (omega (arith, next, below)) ∙ with_given t given ask id some

-- The bytes of files: those given for the files from before, and those of each store in its file.
pub record HasBodies (given : ℕ → List ℕ) (t : DeskTable) (es : List Asked) : Type 0 where
  pub bodies : ℕ → List ℕ
  pub before : (file : ℕ) → file < t.index.next_file → bodies file ≡ given file
  pub given_all : AllGiven bodies t es

bodies_next : (given : ℕ → List ℕ) (t : DeskTable) (e : Asked) (es : List Asked) (v : Verdict) → e.answer.verdict ≡ v
    → ((next : ℕ → List ℕ) → HasBodies next (table_met t e.asked e.answer) es) → HasBodies given t (e ∷ es)
bodies_next given t e es Went is rest =
    let u : DeskTable = table_by Went t e.asked.now e.asked.ask in
    let next : ℕ → List ℕ = given_with t given e.asked.ask in
    let later : HasBodies next u es = subst (λ (v : Verdict). HasBodies next (table_by v t e.asked.now e.asked.ask) es) is (rest next) in
    record {
      bodies = later.bodies;
      before = λ file early.
          let grows = after_next t e.asked.now (deed_of t e.asked.ask) in
          later.before file (omega (arith, early, grows)) ∙ with_before t given e.asked.ask file early;
      given_all = subst (λ (v : Verdict). GivenBy v (AreGiven t later.bodies e.asked.ask) (AllGiven later.bodies (table_by v t e.asked.now e.asked.ask) es)) (sym is)
          (given_on t e.asked.now given later.bodies e.asked.ask later.before, later.given_all);
    }
bodies_next given t e es (Stopped fault) is rest =
    let bodies : ℕ → List ℕ = given_with t given e.asked.ask in
    record {
      bodies = bodies;
      before = λ file early. with_before t given e.asked.ask file early;
      given_all = subst (λ (v : Verdict). GivenBy v (AreGiven t bodies e.asked.ask) (AllGiven bodies (table_by v t e.asked.now e.asked.ask) es)) (sym is) (with_given t given e.asked.ask);
    }
bodies_next given t e es Starved is rest =
    let later : HasBodies given t es = subst (λ (v : Verdict). HasBodies given (table_by v t e.asked.now e.asked.ask) es) is (rest given) in
    record {
      bodies = later.bodies;
      before = later.before;
      given_all = subst (λ (v : Verdict). GivenBy v (AreGiven t later.bodies e.asked.ask) (AllGiven later.bodies (table_by v t e.asked.now e.asked.ask) es)) (sym is) later.given_all;
    }

pub has_bodies : (given : ℕ → List ℕ) (es : List Asked) (t : DeskTable) → HasBodies given t es
has_bodies given [] t = record { bodies = given; before = λ file early. refl; given_all = tt }
has_bodies given (e ∷ es) t = bodies_next given t e es e.answer.verdict refl (λ next. has_bodies next es (table_met t e.asked e.answer))
