-- The claim of 01 section 6 on the Stokes parameters: those of a Jones vector are Born and Wolf's. Definitions only; proofs/BornWolf.antt
-- has the proof.
use Rattle.std.specs.Prelude.{ℤ}
use Rattle.polarization_stokes.specs.declared.JonesVector.{JonesVector}
use Rattle.polarization_stokes.specs.BornWolf.{Number, BornAndWolf, in_parts, exact, rounded}
use Rattle.polarization_stokes.specs.Jones.{number, to_stokes}

pub record StokesClaim : Type 0 where
  -- the Stokes vector of every Jones vector, bit for bit
  pub bit_for_bit : (v : JonesVector) →
      BornAndWolf rounded (number v.ex) (number v.ey) (to_stokes v).s0 (to_stokes v).s1 (to_stokes v).s2 (to_stokes v).s3
  -- what is written out in parts there, with nothing rounded, for all whole parts
  pub exactly : (ex ey : Number ℤ) →
      BornAndWolf exact ex ey (in_parts exact ex ey).s0 (in_parts exact ex ey).s1 (in_parts exact ex ey).s2 (in_parts exact ex ey).s3
