pub mod RestorerModel
pub mod SaverModel
