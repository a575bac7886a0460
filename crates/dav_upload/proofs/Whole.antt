-- An image that recovers to a table holds the bytes that the table names.
use Rattle.std.proofs.Common.{◌≡◌, ◌⊎◌, inl, inr, ℕ, zero, suc, ◌≤◌, Bool, true, false, List, [], ◌∷◌, ◌++◌, map, Option, Some, None, Contains, refl, sym, ◌∙◌, ap, subst, arith}
use Rattle.std.specs.Prelude.{option_and_then}
use Rattle.std.specs.List.{filter_map, cons_option}
use Rattle.std.proofs.lemmas.List.Elements.{Contains-append_left, Contains-append_right}
use Rattle.dav_edge.specs.Device.{Happened}
use Rattle.dav_text.specs.Path.{PathParts}
use Rattle.dav_uri.specs.Target.{BaseParts}
use Rattle.dav_store.specs.declared.body_id.BodyId.{BodyId}
use Rattle.dav_index.specs.Item.{Item}
use Rattle.dav_index.specs.Items.{has_path}
use Rattle.dav_index.specs.Tables.{waiting_body, queued_body, queued_at, restarted_waiting, restarted_item}
use Rattle.dav_index.specs.Bounds.{bodies_of}
use Rattle.dav_index.specs.declared.entry.Waiting.{Waiting}
use Rattle.dav_index.specs.declared.lost.LostItem.{LostItem}
use Rattle.dav_index.specs.declared.table.Table.{Table}
use Rattle.dav_deeds.specs.declared.deed.Step.{Step}
use Rattle.dav_deeds.specs.DeskTable.{DeskTable, reopened}
use Rattle.dav_deeds.specs.Legal.{Legal, table_after}
use Rattle.dav_deeds.specs.Fate.{Fate, Queued, Sent, Lost, story, IsLostAs, IsKeptAs}
use Rattle.dav_index.proofs.HeadLemmas.{head_found, none_found}
use Rattle.dav_deeds.proofs.Stories.{kept, legal_front}
use Rattle.dav_recorder.specs.Stands.{IsIn}
use Rattle.dav_recorder.specs.Recovers.{Recovers}
use Rattle.dav_recorder.specs.Survives.{IsFront, HasUnder, Survives, SurviveAll, with_under}
use Rattle.dav_recorder.proofs.LiveLemmas.{survives_sooner}
use Rattle.dav_disk.specs.Disk.{Doubt, MightLeave}
use Rattle.dav_upload.specs.Backs.{Backs}
use Rattle.dav_upload.specs.Outlives.{HasKept, KeepsBytes, Outlives}
use Rattle.dav_upload.proofs.Backing.{backs_front, was_sent}

waits_again : (w : Option Waiting) (b : Option BodyId) → waiting_body (restarted_waiting w) b ≡ waiting_body w b
waits_again None b = refl
waits_again (Some w) b = refl

-- what is queued stays so over a start
queued_again : (q : PathParts) (items : List Item) → queued_at q (map restarted_item items) ≡ queued_at q items
queued_again q [] = refl
queued_again q (x ∷ xs) = by (has_path q x) refl (queued_again q xs)
  where
    by : (b : Bool) → has_path q x ≡ b → queued_at q (map restarted_item xs) ≡ queued_at q xs → queued_at q (map restarted_item (x ∷ xs)) ≡ queued_at q (x ∷ xs)
    by true is ih =
        ap (option_and_then queued_body) (head_found q (restarted_item x) (map restarted_item xs) true is)
        ∙ waits_again x.entry.queued x.entry.body ∙ sym (ap (option_and_then queued_body) (head_found q x xs true is))
    by false is ih =
        ap (option_and_then queued_body) (head_found q (restarted_item x) (map restarted_item xs) false is)
        ∙ ih ∙ sym (ap (option_and_then queued_body) (head_found q x xs false is))

waiting_is : (w : Option Waiting) (o : Option BodyId) (b : BodyId) → waiting_body w o ≡ Some b → o ≡ Some b
waiting_is None o b is = let none : None ≡ Some b = is in cc
waiting_is (Some w) o b is = is

contains_later : {X : Type 0} (x y : X) (xs : List X) → Contains xs x → Contains (y ∷ xs) x
contains_later x y xs there = (suc there.0, omega (arith, there.1), there.2)

contains_option : (o : Option BodyId) (xs : List BodyId) (b : BodyId) → Contains xs b → Contains (cons_option o xs) b
contains_option None xs b there = there
contains_option (Some c) xs b there = contains_later b c xs there

contains_map : {X Y : Type 0} (f : X → Y) (xs : List X) (x : X) → Contains xs x → Contains (map f xs) (f x)
contains_map f [] x there = absurd (omega (arith, there.1))
contains_map f (y ∷ ys) x (zero, below, is) = (0, omega arith, ap f is)
contains_map f (y ∷ ys) x (suc k, below, is) = contains_later (f x) (f y) (map f ys) (contains_map f ys x (k, omega (arith, below), is))

abbrev bodies_in : List Item → List BodyId
bodies_in items = filter_map (λ (item : Item). item.entry.body) items

queued_in : (q : PathParts) (items : List Item) (b : BodyId) → queued_at q items ≡ Some b → Contains (bodies_in items) b
queued_in q [] b is =
    let none : None ≡ Some b = sym (ap (option_and_then queued_body) (none_found q)) ∙ is in cc
queued_in q (x ∷ xs) b is = by (has_path q x) refl (queued_in q xs b)
  where
    by : (test : Bool) → has_path q x ≡ test → (queued_at q xs ≡ Some b → Contains (bodies_in xs) b) → Contains (bodies_in (x ∷ xs)) b
    by true on ih =
        let body_is : x.entry.body ≡ Some b = waiting_is x.entry.queued x.entry.body b (sym (ap (option_and_then queued_body) (head_found q x xs true on)) ∙ is) in
        subst (λ (o : Option BodyId). Contains (cons_option o (bodies_in xs)) b) (sym body_is) (0, omega arith, refl)
    by false on ih = contains_option x.entry.body (bodies_in xs) b (ih (sym (ap (option_and_then queued_body) (head_found q x xs false on)) ∙ is))

-- the bodies that the table names are in the image
named_in : (url : List ℕ) (t : Table) (bodies image : ℕ → List ℕ) → Recovers url t bodies image → (b : BodyId) → Contains (bodies_of t) b → IsIn bodies image b
named_in url t bodies image (inl nothing) b there =
    let none : Contains (let l : List BodyId = [] in l) b = subst (λ (u : Table). Contains (bodies_of u) b) nothing.1 there in absurd (omega (arith, none.1))
named_in url t bodies image (inr recorded) b there = recorded.stands.kept b there

module _ (base : BaseParts) (url : List ℕ) (bodies : ℕ → List ℕ) (opening : DeskTable) (steps : List Step) (events : List Happened) (image : ℕ → List ℕ) (backs : Backs base bodies opening steps events)
    (recovers : Recovers url (reopened (table_after opening steps)).index bodies image) where
  abbrev here : Table
  here = (table_after opening steps).index

  abbrev there : Table
  there = (reopened (table_after opening steps)).index

  queued_kept : (path : PathParts) (b : BodyId) → queued_at path here.entries ≡ Some b → (queued_at path there.entries ≡ Some b) × IsIn bodies image b
  queued_kept path b is =
      let again : queued_at path there.entries ≡ Some b = queued_again path here.entries ∙ is in
      (again, named_in url there bodies image recovers b (Contains-append_left (bodies_in there.entries) (map (λ (item : LostItem). item.body) there.lost) b (queued_in path there.entries b again)))

  lost_in : (item : LostItem) → Contains here.lost item → IsIn bodies image item.body
  lost_in item is =
      named_in url there bodies image recovers item.body
      (Contains-append_right (bodies_in there.entries) (map (λ (item : LostItem). item.body) there.lost) item.body (contains_map (λ (item : LostItem). item.body) there.lost item is))

  lost_kept : (path : PathParts) (number : ℕ) (b : BodyId) → IsLostAs here path number b → IsLostAs there path number b × IsIn bodies image b
  lost_kept path number b lost = (
    record { item = lost.item; among = lost.among; number_is = lost.number_is; path_is = lost.path_is; body_is = lost.body_is },
    subst (IsIn bodies image) lost.body_is (lost_in lost.item lost.among),
  )

  close_kept : (path : PathParts) (last : Option BodyId) (fate : Fate) → IsKeptAs opening steps here path last fate → HasKept base bodies opening steps events there image path last fate
  close_kept path None fate is = tt
  close_kept path (Some b) Queued is = queued_kept path b is
  close_kept path (Some b) (Sent place) is = was_sent base bodies opening steps events path place b backs is
  close_kept path (Some b) (Lost number) is = lost_kept path number b is

  pub keeps_bytes : opening.job ≡ None → Legal opening steps → KeepsBytes base bodies opening steps events there image
  keeps_bytes none legal =
      let all = kept opening steps none legal in
      record {
        last_close = λ path. close_kept path (story opening steps path).last (story opening steps path).fate (all.last_close path);
        lost_stays = λ item is. let stays = all.lost_stays item is in (stays, lost_in item stays);
      }

pub keeps_whole : (base : BaseParts) (url : List ℕ) (bodies : ℕ → List ℕ) (opening : DeskTable) (steps : List Step) (events : List Happened) (image : ℕ → List ℕ)
    → opening.job ≡ None → Legal opening steps → Backs base bodies opening steps events → Recovers url (reopened (table_after opening steps)).index bodies image
    → KeepsBytes base bodies opening steps events (reopened (table_after opening steps)).index image
keeps_whole base url bodies opening steps events image none legal backs recovers = keeps_bytes base url bodies opening steps events image backs recovers none legal

outlives : (base : BaseParts) (url : List ℕ) (bodies : ℕ → List ℕ) (opening : DeskTable) (steps : List Step) (under : Option Step) (events : List Happened) (m : ℕ) (image : ℕ → List ℕ) (done : List Step)
    → opening.job ≡ None → IsFront m steps done ⊎ HasUnder under steps done → Legal opening done → Backs base bodies opening done events
    → Recovers url (reopened (table_after opening done)).index bodies image → Outlives base url bodies opening steps under events m image
outlives base url bodies opening steps under events m image done none some_of legal backs recovers = record {
  done = done;
  some_of = some_of;
  recovers = recovers;
  backs = backs;
  kept = keeps_whole base url bodies opening done events image none legal backs recovers;
}

legal_steps : (opening : DeskTable) (steps : List Step) (under : Option Step) → Legal opening (with_under steps under) → Legal opening steps
legal_steps opening steps None legal = legal
legal_steps opening steps (Some s) legal = legal_front opening steps (s ∷ []) legal

backs_steps : (base : BaseParts) (bodies : ℕ → List ℕ) (opening : DeskTable) (steps : List Step) (under : Option Step) (events : List Happened) → Backs base bodies opening (with_under steps under) events → Backs base bodies opening steps events
backs_steps base bodies opening steps None events backs = backs
backs_steps base bodies opening steps (Some s) events backs = backs_front base bodies opening steps (s ∷ []) events backs

under_is : (under : Option Step) (steps done : List Step) (s : Step) → under ≡ Some s → done ≡ steps ++ s ∷ [] → with_under steps under ≡ done
under_is under steps done s is all = ap (with_under steps) is ∙ sym all

pub outlives_stop : (base : BaseParts) (url : List ℕ) (bodies : ℕ → List ℕ) (opening : DeskTable) (steps : List Step) (under : Option Step) (events : List Happened) (m : ℕ) (image : ℕ → List ℕ)
    → opening.job ≡ None → Legal opening (with_under steps under) → Backs base bodies opening (with_under steps under) events
    → Survives url opening steps under bodies m image → Outlives base url bodies opening steps under events m image
outlives_stop base url bodies opening steps under events m image none legal backs survives = by survives.some_of
  where
    by : IsFront m steps survives.done ⊎ HasUnder under steps survives.done → Outlives base url bodies opening steps under events m image
    by (inl front) =
        outlives base url bodies opening steps under events m image survives.done none (inl front)
        (legal_front opening survives.done front.rest (subst (Legal opening) front.split (legal_steps opening steps under legal)))
        (backs_front base bodies opening survives.done front.rest events (subst (λ (l : List Step). Backs base bodies opening l events) front.split (backs_steps base bodies opening steps under events backs)))
        survives.recovers
    by (inr more) =
        let whole = under_is under steps survives.done more.0 more.1 more.2 in
        outlives base url bodies opening steps under events m image survives.done none (inr more)
        (subst (Legal opening) whole legal) (subst (λ (l : List Step). Backs base bodies opening l events) whole backs) survives.recovers

pub outlives_each : (base : BaseParts) (url : List ℕ) (bodies : ℕ → List ℕ) (opening : DeskTable) (steps : List Step) (under : Option Step) (past : ℕ → ℕ → Doubt) (start now : ℕ) (events : List Happened)
    → opening.job ≡ None → Legal opening (with_under steps under) → Backs base bodies opening (with_under steps under) events → SurviveAll past start now url opening steps under bodies
    → (m : ℕ) (image : ℕ → List ℕ) → start ≤ m → MightLeave past now m image → Outlives base url bodies opening steps under events m image
outlives_each base url bodies opening steps under past start now events none legal backs survive m image begun left =
    outlives_stop base url bodies opening steps under events m image none legal backs
    (survives_sooner url opening bodies steps under m left.0 image left.1 (survive left.0 image (omega (arith, begun, left.1)) left.2 left.3))
