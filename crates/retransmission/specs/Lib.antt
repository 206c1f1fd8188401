pub mod Retransmission
pub mod Laws
