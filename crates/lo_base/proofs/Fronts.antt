-- What `text` leaves where it finds no memory.
use Rattle.std.proofs.Common.{◌≡◌, ℕ, List, ◌++◌, length}
use Rattle.std.proofs.Math.Seq.{take-append_seam}
use Rattle.lo_base.specs.Appended.{AddsFront}

-- old bytes and some bytes that a text begins with
pub front_appended : (old new front rest text : List ℕ) → new ≡ old ++ front → text ≡ front ++ rest → AddsFront old new text
front_appended old new front rest text is begins = record {
  count = length front;
  front = rw begins (rw take-append_seam is);
}
