-- What a scanner has read, as documents.
use Rattle.std.proofs.Common.{◌≡◌, ℕ, List, [], ◌∷◌, ◌++◌, ap, ◌∙◌, append_assoc, Some, None, inl, inr}
use Rattle.std.specs.Prelude.{◌⊎◌}
use Rattle.dav_doc.specs.Characters.{Owed, Whole, owed_by, owed_after, on_owed}
use Rattle.dav_doc.specs.Document.{Event, Forest, IsDocument, events}
use Rattle.dav_doc.specs.Machine as machine
use Rattle.dav_doc.specs.Machine.{Begin, State, run, step, move_on}
use Rattle.dav_doc.proofs.Agreement.{so_far, whole_alive, whole_bad}
use Rattle.dav_doc.proofs.Reading.{owed-append}
use Rattle.dav_doc.proofs.Runs.{run-append, on_ran}
use Rattle.dav_xml.specs.declared.fault.XmlFault.TheVariants as faults
use Rattle.dav_xml.specs.declared.scan.Scan.{Scan}
use Rattle.dav_xml.specs.Events.{later_in}
use Rattle.dav_xml.specs.Read.{HasRead, Fails}
use Rattle.dav_xml.specs.Reading.{begin}
use Rattle.dav_xml.proofs.ReadLemmas.{reads_run, refused}

pub read_run : (scan : Scan) (text : List ℕ) (given : List Event) → HasRead scan text given
    → (st : State) × (run text Begin ≡ Some (record { state = st; events = given ++ later_in scan.lent }))
read_run scan text given h = (h.state, (reads_run text begin _ h.read).run)

pub read_owed : (scan : Scan) (text : List ℕ) (given : List Event) → HasRead scan text given → (o : Owed) × (owed_by text Whole ≡ Some o)
read_owed scan text given h = (_, (reads_run text begin _ h.read).owed)

pub read_alive : (scan : Scan) (text : List ℕ) (given : List Event) → HasRead scan text given → (t : List ℕ) × (tree : Forest) × IsDocument tree (text ++ t)
read_alive scan text given h = let k = reads_run text begin _ h.read in whole_alive text _ _ k.run k.owed

pub read_first : (scan : Scan) (text t : List ℕ) (given : List Event) (tree : Forest) → HasRead scan text given → IsDocument tree (text ++ t)
    → (later : List Event) × (events 1 tree ≡ given ++ later)
read_first scan text t given tree h is =
    let k = so_far text t _ tree (reads_run text begin _ h.read).run is.spells in
    (later_in scan.lent ++ k.0, k.1 ∙ append_assoc given (later_in scan.lent) k.0)

-- the byte behind a text that runs, where one of the machines refuses it
refused_text : (text : List ℕ) (b : ℕ) (st : State) (e : List Event) (o : Owed) → run text Begin ≡ Some (record { state = st; events = e }) → owed_by text Whole ≡ Some o
    → (owed_after o b ≡ None) ⊎ (step st b ≡ machine.Bad) → (owed_by (text ++ (b ∷ [])) Whole ≡ None) ⊎ (run (text ++ (b ∷ [])) Begin ≡ None)
refused_text text b st e o r w (inl h) =
    inl (owed-append text (b ∷ []) Whole ∙ ap (λ z. on_owed z (owed_by (b ∷ []))) w ∙ ap (λ z. on_owed z (owed_by [])) h)
refused_text text b st e o r w (inr h) =
    inr (run-append text (b ∷ []) Begin ∙ ap (λ z. on_ran z (b ∷ [])) r ∙ ap (λ z. machine.gives e (move_on z (run []))) h)

pub bad_never : (text : List ℕ) (given : List Event) (b at : ℕ) → Fails text given b (faults.Bad at) → (t : List ℕ) (tree : Forest) → IsDocument tree ((text ++ (b ∷ [])) ++ t) → ⊥
bad_never text given b at f t tree is =
    let k = reads_run text begin _ f.read in
    whole_bad (text ++ (b ∷ []))
    (refused_text text b f.stand.state given f.stand.owed k.run k.owed (refused f.stand (owed_after f.stand.owed b) (step f.stand.state b) f.why.1)) t tree is

pub bad_alive : (text : List ℕ) (given : List Event) (b at : ℕ) → Fails text given b (faults.Bad at) → (t : List ℕ) × (tree : Forest) × IsDocument tree (text ++ t)
bad_alive text given b at f = let k = reads_run text begin _ f.read in whole_alive text _ _ k.run k.owed
